-- `arithmetic::biased` meets its contract. Assumes nothing.
use Rattle.arithmetic.proofs.Signs.{biased_is}
use Rattle.arithmetic.proofs.biased.Goals as goal

pub returns : goal.returns
returns c = biased_is _ _ c.requires.2
