-- `arithmetic::beyond` meets its contract. Assumes nothing.
use Rattle.arithmetic.proofs.Signs.{beyond_low, beyond_high}
use Rattle.arithmetic.proofs.beyond.Goals as goal

pub returns-then-t-h : goal.returns-then-t-h
returns-then-t-h c = beyond_low _ _ c.if-t-h.true

pub returns-else-t-h : goal.returns-else-t-h
returns-else-t-h c = beyond_high _ _ c.if-t-h.false
