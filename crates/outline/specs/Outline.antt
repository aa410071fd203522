-- A line's outline: what one look at each of its bytes finds. Assumes nothing.
use Rattle.std.specs.Prelude.{◌≡◌, Bool, false, ◌&&◌, ◌||◌, cond, [], ◌∷◌, ℕ, ◌+◌, ◌-◌, eqb, leb, get_or}
use Rattle.rules.specs.Text.{Text, upper, leading}
use Rattle.rules.specs.Line.{is_data}
use Rattle.text.specs.Pieces.{until}
use Rattle.outline.specs.Lines.{line_end, line_from}
use Rattle.outline.specs.declared.Outline.{Outline}

-- p and q are DC or DS, in either case
unfoldable pub is_define : ℕ → ℕ → Bool
is_define p q = eqb (upper p) 68 && (eqb (upper q) 67 || eqb (upper q) 83)

-- the byte k places before i, 0 where that lies before the start
abbrev pub back : Text → ℕ → ℕ → ℕ → ℕ
back s start i k = cond (leb (start + k) i) (get_or s (i - k) 0) 0

-- whether DC. or DS. is in a text, p and q before it
unfoldable pub defines_from : ℕ → ℕ → Text → Bool
defines_from p q [] = false
defines_from p q (b ∷ s) = eqb b 46 && is_define p q || defines_from q b s

-- the first colon, `none` where there is none, with one more at i
abbrev pub next_colon : ℕ → ℕ → ℕ → ℕ
next_colon none colon i = cond (eqb colon none) i colon

-- an outline; the colon `none` where there is none
abbrev pub outline_by : ℕ → ℕ → ℕ → Bool → ℕ → Outline
outline_by start none colon defines end = record { start = start; colon = cond (eqb colon none) end colon; defines = defines; end = end }

-- the line that starts at i: where its text starts, its first colon or its end, whether DC. or DS. is in it, where it ends
pub record OutlineLineGives (source : Text) (i : ℕ) (r : Outline) : Type 0 where
  pub starts : r.start ≡ i + leading (line_from source i)
  pub colons : r.colon ≡ i + until (eqb 58) (line_from source i)
  pub directive : r.defines ≡ is_data (line_from source i)
  pub ends : r.end ≡ line_end source i
