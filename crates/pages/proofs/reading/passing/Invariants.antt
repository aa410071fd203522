-- The lines so far pass. Assumes nothing.
use Rattle.pages.proofs.Passing.{Passed}
use Rattle.pages.proofs.reading.passing.Given as goal

abbrev pub invariant-loop-k : goal.invariant-loop-k
invariant-loop-k g l = Passed g.T.LineTest.test (λ x. x.now) l.lines l.k
