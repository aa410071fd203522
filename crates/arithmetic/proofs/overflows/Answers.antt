-- `arithmetic::overflows` meets its contract. Assumes nothing.
use Rattle.arithmetic.proofs.Signs.{exceeds_below, exceeds_above}
use Rattle.arithmetic.proofs.overflows.Goals as goal

pub returns-then-p-q : goal.returns-then-p-q
returns-then-p-q c = exceeds_below _ _ _ c.if-p-q.true

pub returns-else-p-q : goal.returns-else-p-q
returns-else-p-q c = exceeds_above _ _ _ c.if-p-q.false
