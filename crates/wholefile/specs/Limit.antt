-- How large a file may become, in a text that tells a process's limits. Assumes nothing.
use Rattle.std.specs.Prelude.{ℕ, ◌^◌, cond, [], ◌∷◌, length, take, drop, Option, Some, None, option_and_then, Result, Ok, Err}
use Rattle.rules.specs.Text.{Text, bytes, starts, trim}
use Rattle.rules.specs.Number.{some_digits, ranged, below}
use Rattle.numeral.specs.Number.{number_of}
use Rattle.text.specs.Pieces.{run}

abbrev pub head : Text
head = bytes "Max file size"

-- what follows p in front
abbrev pub after : Text → Text → Option Text
after p t = cond (starts p t) (Some (drop (length p) t)) None

-- what follows the first place where p stands
unfoldable pub behind : Text → Text → Option Text
behind p [] = None
behind p (b ∷ s) = elim (after p (b ∷ s)) [ Some r ↦ Some r | None ↦ behind p s ]

-- the bytes up to a blank, after the blanks in front
abbrev pub first_piece : Text → Text
first_piece t = take (run (trim t)) (trim t)

abbrev pub right : {A E : Type 0} → Result A E → Option A
right (Ok n) = Some n
right (Err e) = None

-- digits of a number below 2^32
abbrev pub number : Text → Option ℕ
number t = right (number_of (ranged (below (2 ^ 32)) (some_digits 10 t)))

abbrev pub limit_in : Text → Option ℕ
limit_in t = option_and_then (λ rest. number (first_piece rest)) (behind head t)
