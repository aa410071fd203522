-- The examples so far, and the lines that are left. Assumes nothing.
use Rattle.pages.specs.Page.{shown}
use Rattle.pages.proofs.Samples.{Left}
use Rattle.pages.proofs.reading.read_examples.Given as goal

abbrev pub invariant-loop-k : goal.invariant-loop-k
invariant-loop-k l = Left (λ x. x.now) (λ e. shown e) l.lines l.k l.examples.items
