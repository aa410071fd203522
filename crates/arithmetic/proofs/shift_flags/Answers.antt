-- `arithmetic::shift_flags` meets its contract. Assumes nothing.
use mathlib.Core.Path.{◌∙◌}
use Rattle.arithmetic.proofs.Signs.{shift_marks}
use Rattle.arithmetic.proofs.shift_flags.Goals as goal

pub returns : goal.returns
returns c = c.mark.ensures ∙ shift_marks _ _ _ _ _ _ _ c.requires.0 c.power-t.ensures.0 c.borrowed-b.ensures.signed c.scaled-p.ensures.0 c.scaled-q.ensures.0 c.overflows-over.ensures
