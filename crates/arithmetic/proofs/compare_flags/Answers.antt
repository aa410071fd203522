-- `arithmetic::compare_flags` meets its contract. Assumes nothing.
use Rattle.arithmetic.proofs.Signs.{bias_minus}
use Rattle.machine.specs.Flags.{compared}
use Rattle.arithmetic.proofs.compare_flags.Goals as goal

pub returns : goal.returns
unfolding compared
returns c = rw (c.biased-b.ensures.0, c.biased-e.ensures.0, bias_minus _ _ _ c.biased-e.ensures.1, ← c.beyond-over.ensures, ← c.difference-r.ensures.0) c.mark.ensures
