-- `arithmetic::branch_target` meets its contract. Assumes nothing.
use Rattle.arithmetic.proofs.Signs.{target_low, target_high}
use Rattle.arithmetic.proofs.branch_target.Goals as goal

pub returns-then-b-lt128 : goal.returns-then-b-lt128
returns-then-b-lt128 c = target_low _ _ _ c.from.ensures c.if-b-lt128.true

pub returns-else-b-lt128 : goal.returns-else-b-lt128
returns-else-b-lt128 c = target_high _ _ _ c.from.ensures c.if-b-lt128.false
