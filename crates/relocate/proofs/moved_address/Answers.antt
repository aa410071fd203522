-- `relocate::moved_address` meets its contract. Assumes nothing.
use Rattle.rules.specs.Relocate.{moved_address}
use Rattle.relocate.proofs.Signed.{inside_fits, summed}
use Rattle.relocate.proofs.moved_address.Goals as goal

pub overflow_cast-result : goal.overflow_cast-result
overflow_cast-result c = rw (summed _ c.sum.type_inv c.sum.ensures c.ranges.distance) (inside_fits _ c.requires)

pub returns : goal.returns
unfolding moved_address
returns c = rw (summed _ c.sum.type_inv c.sum.ensures c.ranges.distance)
