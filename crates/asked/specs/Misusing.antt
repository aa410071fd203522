-- What wrong words come to. Assumes nothing.
use Rattle.std.specs.Prelude.{◌≡◌, ℕ, List, Option}
use Rattle.rules.specs.Text.{Text}
use Rattle.commandline.specs.declared.Wrong.{Wrong}
use Rattle.commandline.specs.declared.Wrong.TheVariants as wrong
use Rattle.outcome.specs.declared.Outcome.{Outcome}
use Rattle.outcome.specs.declared.Outcome.TheVariants.{NoMemory, WrongUse}
use Rattle.asked.specs.Said.{Says, wrong_text}

-- what wrong words come to: wrong use, but where there was no memory to read them
abbrev pub misused : Wrong → Outcome
misused wrong.OutOfMemory = NoMemory
misused _ = WrongUse

-- old and new, what standard error has taken before and after
abbrev pub Misuses : Wrong → Option (List ℕ) → Option (List ℕ) → Outcome → Type 0
Misuses w old new o = (o ≡ misused w) × Says old new (wrong_text w)
