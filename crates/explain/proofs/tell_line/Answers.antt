-- `tell_line` on a line that is kept, and the lines of a source that the first pass passed. Assumes nothing.
use Rattle.first.proofs.Callers.{bounded}
use Rattle.explain.proofs.Lines.{told_kept}
use Rattle.explain.proofs.tell_line.Goals as goal

pub returns-then-k-pass : goal.returns-then-k-pass
returns-then-k-pass c = told_kept _ c.requires _ c.if-line-eq0.false c.if-k-pass.true c.why_line.ensures

pub count_lines-requires : goal.count_lines-requires
count_lines-requires c = rw c.source.ensures (bounded c.requires).short
