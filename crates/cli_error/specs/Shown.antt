-- The line that a refusal speaks of, as it is shown under the refusal. Assumes nothing.
use Rattle.std.specs.Prelude.{ℕ, suc, ◌-◌, ◌||◌, cond, [], ◌++◌, map, take, eqb, ltb, Option, None, Some}
use Rattle.rules.specs.Text.{Text, bytes, cut_at, nth}
use Rattle.text.specs.Breaks.{breaks}
use Rattle.cli_error.specs.Refusals.{counted, padded}
use Rattle.cli_error.specs.declared.words.Counts.{Counts}
use Rattle.cli_error.specs.declared.words.Counts.TheVariants.{Length, Offset, Count, Line, Index}

-- the line, from 0, that a place p stands for: a line's own number, that of the line on which a byte stands, the line of a list's place
unfoldable pub line_index : Option Counts → ℕ → Text → Option ℕ
line_index None p s = None
line_index (Some Length) p s = None
line_index (Some Count) p s = None
line_index (Some Line) p s = cond (eqb p 0) None (Some (p - 1))
line_index (Some Offset) p s = Some (breaks (take p s))
line_index (Some Index) p s = Some p

-- of refusal n at place p in the text s; 16 and 17 are of a branch table, which has no lines
unfoldable pub spoken_index : ℕ → ℕ → Text → Option ℕ
spoken_index n p s = cond (eqb n 16 || eqb n 17) None (line_index (counted n) p s)

-- the k-th line of a text, from 0, by the rules' cut at byte 10
abbrev pub line_at : Text → ℕ → Option Text
line_at s k = nth k (cut_at 10 s)

-- control bytes are shown as `?`, and at most 120 bytes are
unfoldable pub shown_byte : ℕ → ℕ
shown_byte b = cond (ltb b 32 || eqb b 127) 63 b

unfoldable pub shown_bytes : Text → Text
shown_bytes l = map shown_byte (take 120 l)

-- line n, from 1, with the text l: its number in four columns, and its bytes
abbrev pub row_text : ℕ → Text → Text
row_text n l = (((bytes "lagvettu: " ++ padded 4 n) ++ bytes "  ") ++ shown_bytes l) ++ bytes "\n"

-- the k-th, from 0; nothing where there is none
abbrev pub numbered_text : ℕ → Option Text → Text
numbered_text k None = []
numbered_text k (Some l) = row_text (suc k) l

abbrev pub line_text : Option ℕ → Text → Text
line_text None s = []
line_text (Some k) s = numbered_text k (line_at s k)

-- what is shown of the text s of which refusal n speaks at place p
unfoldable pub shown_text : ℕ → ℕ → Text → Text
shown_text n p s = line_text (spoken_index n p s) s
