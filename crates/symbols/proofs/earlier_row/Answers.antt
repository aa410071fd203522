-- `earlier_row` passes over a row that starts too early, and keeps the first of two. Assumes nothing.
use Rattle.symbols.proofs.Next.{row_early, row_alone, row_first, row_second}
use Rattle.symbols.proofs.earlier_row.Goals as goal

pub returns-then-row-from : goal.returns-then-row-from
returns-then-row-from c = λ l o e f. row_early _ l o e c.if-row-from.true f

pub returns-in_default : goal.returns-in_default
returns-in_default c = λ l o e f. row_alone _ l o e c.if-row-from.false (rw c.in_default.is at f)

pub returns-then-row-other : goal.returns-then-row-other
returns-then-row-other c = λ l o e f. row_first _ l o e c.if-row-from.false (rw c.in-Some.is at f) c.if-row-other.true

pub returns : goal.returns
returns c = λ l o e f. row_second _ l o e c.if-row-from.false (rw c.in-Some.is at f) c.if-row-other.false
