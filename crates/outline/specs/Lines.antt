-- The source's lines by position. Assumes nothing.
use Rattle.std.specs.Prelude.{ℕ, ◌+◌, cond, List, [], length, drop, take, eqb, leb}
use Rattle.rules.specs.Text.{Text, cut_at}
use Rattle.rules.specs.Line.{SourceLine, numbered}
use Rattle.text.specs.Pieces.{until}

-- where the line that starts at i ends
abbrev pub line_end : Text → ℕ → ℕ
line_end s i = i + until (eqb 10) (drop i s)

-- the line that starts at i
abbrev pub line_from : Text → ℕ → Text
line_from s i = take (until (eqb 10) (drop i s)) (drop i s)

-- the lines from position i on, the first of them number n: none where i lies past the source's end
unfoldable pub lines_from : Text → ℕ → ℕ → List SourceLine
lines_from s n i = cond (leb i (length s)) (numbered n i (cut_at 10 (drop i s))) []
