-- Pieces joined by one space, as they are written one after the other. Assumes nothing.
use Rattle.std.specs.Prelude.{ℕ, zero, suc, [], ◌∷◌, ◌++◌}
use Rattle.rules.specs.Text.{Text}

-- the space after n bytes: none where nothing is written yet
abbrev pub space : ℕ → Text
space zero = []
space (suc n) = 32 ∷ []

-- a piece, and the space before it
abbrev pub spaced : ℕ → Text → Text
spaced n p = space n ++ p
