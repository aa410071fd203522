-- `write_verdicts` adds END to the lines that are kept. Assumes nothing.
use Rattle.first.proofs.Callers.{bounded}
use Rattle.explain.proofs.Writing.{wrote_kept, wrote_end}
use Rattle.explain.proofs.write_verdicts.Goals as goal

pub count_lines-requires : goal.count_lines-requires
count_lines-requires g c = rw c.source.ensures (bounded c.requires.holds).short

pub returns-then-count_lines-lines : goal.returns-then-count_lines-lines
returns-then-count_lines-lines g c = wrote_kept _ _ c.write_kept.ensures c.requires (rw c.source.ensures at c.count_lines.ensures) c.if-count_lines-lines.true

pub returns : goal.returns
returns g c = wrote_end _ _ c.write_kept.ensures c.requires (rw c.source.ensures at c.count_lines.ensures) c.if-count_lines-lines.false c.from_verdict.ensures
