-- The checks of a source, at any type of what comes after them: a clause speaks of one type at a time. Assumes nothing.
use Rattle.rules.specs.Text.{Text}
use Rattle.rules.specs.Answer.{accepted}
use Rattle.rules.specs.Assemble.{checks}
use Rattle.promises.specs.Stages.{RefusesExactly}
use Rattle.promises.specs.Refusals.{SourceCondition, checking}

-- promises/specs/Refusals says it of all types at once
unfoldable pub ChecksRefuseExactly : Type 0 → Type 0
ChecksRefuseExactly A = (s : Text) (a : A) → RefusesExactly checking (SourceCondition s) (checks s (accepted a))
