-- `arithmetic::add_flags` meets its contract. Assumes nothing.
use Rattle.arithmetic.proofs.Signs.{sub_plus}
use Rattle.machine.specs.Flags.{added}
use Rattle.arithmetic.proofs.add_flags.Goals as goal

pub returns : goal.returns
unfolding added
returns c = rw (c.biased-b.ensures.0, c.biased-e.ensures.0, sub_plus, ← c.beyond-over.ensures) c.mark.ensures
