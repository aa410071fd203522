-- Rows as the code writes them one after another: what its functions need and give. Assumes nothing.
use Rattle.std.specs.Prelude.{ℕ, ◌+◌, ◌-◌, ◌*◌, ◌≤◌, ◌≡◌, length, Option, None, Some, Result, Ok, Err}
use Rattle.rules.specs.Text.{Text}
use Rattle.rules.specs.Line.{SourceLine}
use Rattle.rules.specs.Assemble.{Put}
use Rattle.text.specs.declared.Span.{Span}
use Rattle.outline.specs.Lines.{line_end, line_from, lines_from}
use Rattle.numeral.specs.declared.Failure.{Failure}
use Rattle.line.specs.Line.{task_at}
use Rattle.line.specs.declared.Task.{Task}
use Rattle.listing.specs.Writer.{Adds}
use Rattle.listing.specs.declared.writer.Writer.{Writer}
use Rattle.explain.specs.Verdict.{failure_verdict}
use Rattle.explain.specs.declared.Verdict.{Verdict}

-- ---- one line
-- the verdict that is shown of a line, by what its number is
abbrev pub shown_verdict : Option (Result ℕ Failure) → Verdict → Verdict
shown_verdict None v = v
shown_verdict (Some (Ok n)) v = v
shown_verdict (Some (Err f)) v = failure_verdict f

-- what a task asks at an address
abbrev pub put_of : Text → ℕ → Task → Put
put_of source a task = record { address = a; task = task_at source task }

-- the line that starts at `start`, with its number
abbrev pub line_at : Text → ℕ → ℕ → SourceLine
line_at source line start = record { number = line; start = start; text = line_from source start }

-- a line of the source, with a number of at most 4 digits; and room for its row, which has at most 58 bytes more
pub record LineNeeds (source : Text) (line : ℕ) (span : Span) (w : Writer) : Type 0 where
  pub number : line ≤ 9999
  pub inside : span.start ≤ length source
  pub ends : span.end ≡ line_end source span.start
  pub room : w.len + 58 + (span.end - span.start) ≤ length w.out.now

-- ---- the lines from one on
-- the most bytes of their rows: 58 for each, and those of the source from there on
abbrev pub rows_room : Text → ℕ → ℕ → ℕ
rows_room source line start = 58 * length (lines_from source line start) + (length source + 1 - start)

-- there is room for them, and no number of more than 4 digits
pub record LinesNeeds (source : Text) (line start : ℕ) (w : Writer) : Type 0 where
  pub numbers : line + length (lines_from source line start) ≤ 9999
  pub near : start ≤ length source + 1
  pub room : w.len + rows_room source line start ≤ length w.out.now

-- all their rows, s, are written
pub record RowsGive (source : Text) (line start : ℕ) (s : Text) (w v : Writer) : Type 0 where
  pub adds : Adds s w v
  pub low : v.len ≤ w.len + rows_room source line start
