-- What `check` says of a script. Assumes nothing.
use Rattle.std.specs.Prelude.{ℕ, Bool, true, false, ◌||◌, cond, eqb, List}
use Rattle.rules.specs.Text.{Text}
use Rattle.rules.specs.Answer.{Answer, accepted, refused}
use Rattle.rules.specs.Assemble.{Place}
use Rattle.diagnostic.specs.Said.{accepted_row, refused_row}
use Rattle.outcome.specs.Made.{Made, made, refuses}
use Rattle.outcome.specs.declared.Which.TheVariants.{Table}

-- a refusal's row; of a branch table, 16 and 17, there is none: the call stops
unfoldable pub refused_by : Text → ℕ → ℕ → Made
refused_by name n p = cond (eqb n 16 || eqb n 17) (refuses Table n p) (made (refused_row name n p))

-- the row of the script that is named so, by its list
abbrev pub row_of : Text → Answer (List Place) → Made
row_of name (accepted l) = made (accepted_row name)
row_of name (refused n p) = refused_by name n p

abbrev pub is_accepted : Answer (List Place) → Bool
is_accepted (accepted l) = true
is_accepted (refused n p) = false
