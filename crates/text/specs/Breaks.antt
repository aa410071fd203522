-- The bytes 10 of a text, each of which ends a line, and the number of a line by a place on it. Assumes nothing.
use Rattle.std.specs.Prelude.{ℕ, suc, true, false, [], ◌∷◌, eqb, take}
use Rattle.rules.specs.Text.{Text}

-- how many bytes 10 a text has
unfoldable pub breaks : Text → ℕ
breaks [] = 0
breaks (b ∷ s) = elim (eqb 10 b) [ true ↦ suc (breaks s) | false ↦ breaks s ]

-- the line, from 1, on which the place i stands: one more than the bytes 10 before it
abbrev pub line_number : Text → ℕ → ℕ
line_number s i = suc (breaks (take i s))
