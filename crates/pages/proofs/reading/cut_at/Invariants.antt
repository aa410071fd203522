-- The parts so far, and what is left of the text. Assumes nothing.
use Rattle.pages.proofs.Cutting.{Cut}
use Rattle.pages.proofs.reading.cut_at.Given as goal

abbrev pub invariant-loop-k : goal.invariant-loop-k
invariant-loop-k l = Cut (λ x. x.now) l.c l.text l._k l.parts.items l.rest
