-- What is said where a text was not printed whole. Assumes nothing.
use Rattle.std.specs.Prelude.{◌≡◌, ℕ, List, Option}
use Rattle.rules.specs.Text.{Text}
use Rattle.diagnostic.specs.Said.{failed_text}
use Rattle.diagnostic.specs.Reason.{reason_of}
use Rattle.outcome.specs.declared.Outcome.{Outcome}
use Rattle.outcome.specs.declared.Outcome.TheVariants.{Accepted, NotAll, Stopped, NoMemory, WrongUse, Failed}
use Rattle.asked.specs.Said.{Says}

-- name, how the output is named: nothing is said but of what failed, with what the system says
abbrev pub SaysFailure : Text → Option (List ℕ) → Option (List ℕ) → Outcome → Type 0
SaysFailure name old new Accepted = new ≡ old
SaysFailure name old new NotAll = new ≡ old
SaysFailure name old new (Stopped s) = new ≡ old
SaysFailure name old new NoMemory = new ≡ old
SaysFailure name old new WrongUse = new ≡ old
SaysFailure name old new (Failed what which e) = (reason : Text) × Says old new (failed_text what name (reason_of reason))
