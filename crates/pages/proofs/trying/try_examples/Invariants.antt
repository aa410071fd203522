-- The examples so far were tried. Assumes nothing.
use Rattle.pages.specs.Page.{shown}
use Rattle.pages.specs.Tried.{failure}
use Rattle.pages.proofs.Tries.{TriedTo}
use Rattle.pages.proofs.trying.try_examples.Given as goal

abbrev pub invariant-loop-k : goal.invariant-loop-k
invariant-loop-k g l = TriedTo (λ e. shown e) (λ f. failure f) l.examples l.k l.failures.items
