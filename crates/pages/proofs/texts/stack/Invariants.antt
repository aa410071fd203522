-- The parts so far, and the lines that are left. Assumes nothing.
use Rattle.pages.proofs.Parts.{Under}
use Rattle.pages.proofs.texts.stack.Given as goal

abbrev pub invariant-loop-k : goal.invariant-loop-k
invariant-loop-k g l = Under g.T.LinePart.part (λ x. x.now) l.lines l.k l.text.items
