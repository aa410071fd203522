-- The next of a text's blank-separated pieces, by position. Assumes nothing.
use Rattle.std.specs.Prelude.{ℕ, suc, ◌+◌, Bool, true, false, not, [], ◌∷◌, drop}
use Rattle.rules.specs.Text.{Text, blank, leading}
use Rattle.text.specs.declared.Span.{Span}

-- how many bytes stand before the first that passes the test
unfoldable pub until : (ℕ → Bool) → Text → ℕ
until f [] = 0
until f (b ∷ s) = elim (f b) [ true ↦ 0 | false ↦ suc (until f s) ]

-- no blank
abbrev pub filled : ℕ → Bool
filled b = not (blank b)

-- how many bytes lead that are no blanks
abbrev pub run : Text → ℕ
run t = until blank t

-- where the next piece from a position starts
abbrev pub next_start : Text → ℕ → ℕ
next_start t at = at + leading (drop at t)

abbrev pub next_piece : Text → ℕ → Span
next_piece t at = record { start = next_start t at; end = next_start t at + run (drop (next_start t at) t) }
