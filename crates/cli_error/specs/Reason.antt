-- Why the system failed, in its own words, as std shows an error of the system: `File exists (os error 17)`. Assumes nothing.
use Rattle.std.specs.Prelude.{[], ◌∷◌, not, ◌&&◌, true, false}
use Rattle.rules.specs.Text.{Text, bytes, starts, contains}

-- what stands after the words, in front of the number
unfoldable pub mark : Text
mark = bytes " (os error "

-- the text in front of the last such mark, the whole text where there is none
unfoldable pub reason_of : Text → Text
reason_of [] = []
reason_of (b ∷ s) = elim (starts mark (b ∷ s) && not (contains mark s)) [ true ↦ [] | false ↦ b ∷ reason_of s ]
