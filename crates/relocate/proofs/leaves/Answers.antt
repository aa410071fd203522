-- `relocate::leaves` meets its contract. Assumes nothing.
use Rattle.relocate.proofs.Signed.{outside_low, outside_high, summed}
use Rattle.relocate.proofs.leaves.Goals as goal

pub returns-then-moved-lt0 : goal.returns-then-moved-lt0
returns-then-moved-lt0 c =
    let e = summed _ c.sum-moved.type_inv c.sum-moved.ensures c.ranges.distance in
    rw e (outside_low _ (rw e at c.if-moved-lt0.true))

pub returns-else-moved-lt0 : goal.returns-else-moved-lt0
returns-else-moved-lt0 c =
    let e = summed _ c.sum-moved.type_inv c.sum-moved.ensures c.ranges.distance in
    rw e (outside_high _ (rw e at c.if-moved-lt0.false))
