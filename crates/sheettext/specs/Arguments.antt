-- What the arguments of `plantsheet` say. Assumes nothing.
use Rattle.std.specs.Prelude.{◌≡◌, Bool, true, false, not, ◌&&◌, cond, List, [], ◌∷◌}
use Rattle.rules.specs.Text.{Text, bytes, same}
use Rattle.sheettext.specs.declared.arguments.Given.{Given}

-- `-t` and a sheet's name, as often as there are any
unfoldable pub are_sheets : List Text → Bool
are_sheets [] = true
are_sheets (option ∷ []) = false
are_sheets (option ∷ name ∷ ts) = same option (bytes "-t") && are_sheets ts

-- ---- one argument after another
abbrev pub no_argument : Given
no_argument = record { due = false; wrong = false }

-- after `-t` any argument is a name
unfoldable pub with_argument : Given → Text → Given
with_argument g t = cond g.due (record { due = false; wrong = g.wrong }) (record { due = true; wrong = cond (same t (bytes "-t")) g.wrong true })

unfoldable pub with_arguments : Given → List Text → Given
with_arguments g [] = g
with_arguments g (t ∷ ts) = with_arguments (with_argument g t) ts

unfoldable pub is_whole : Given → Bool
is_whole g = cond g.wrong false (not g.due)

-- that is the same
pub record ArgumentsTaken : Type 0 where
  pub all : (ts : List Text) → is_whole (with_arguments no_argument ts) ≡ are_sheets ts
