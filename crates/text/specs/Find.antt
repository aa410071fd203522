-- The first place of a byte in a text. Assumes nothing.
use Rattle.std.specs.Prelude.{ℕ, ◌+◌, true, false, [], ◌∷◌, eqb, Option, None, Some}
use Rattle.rules.specs.Text.{Text}

-- an index counted from n places before
abbrev pub further : ℕ → Option ℕ → Option ℕ
further n None = None
further n (Some i) = Some (n + i)

-- the index of the first byte c
unfoldable pub index_of : ℕ → Text → Option ℕ
index_of c [] = None
index_of c (b ∷ s) = elim (eqb b c) [ true ↦ Some 0 | false ↦ further 1 (index_of c s) ]
