-- A script over the limit is refused by its length. Assumes nothing.
use mathlib.Core.Path.{ap}
use native.Mathlib.Omega.{arith}
use Rattle.answer.specs.declared.Refusal.TheVariants.{LongSource}
use Rattle.outcome.specs.declared.Stop.TheVariants.{Refused}
use Rattle.outcome.specs.declared.Unmade.TheVariants.{Stopped}
use Rattle.outcome.specs.declared.Which.TheVariants.{Input}
use Rattle.make_labels.proofs.script_in.Goals as goal

pub returns-then-total-gt-MAX_SOURCE : goal.returns-then-total-gt-MAX_SOURCE
returns-then-total-gt-MAX_SOURCE c = λ s r. (omega (arith, r.total, c.if-total-gt-MAX_SOURCE.true), ap (λ n. Stopped (Refused Input (LongSource n))) r.total)
