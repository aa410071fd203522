-- `push_rest` writes END's row, and those of the lines after it. Assumes nothing.
use native.Mathlib.Omega.{arith}
use Rattle.printout.proofs.Coding.{line_within}
use Rattle.printout.proofs.Rowing.{rest_line_lem, rest_none, rest_needs, rest_all}
use Rattle.printout.proofs.push_rest.Goals as goal

pub returns-then-source-start : goal.returns-then-source-start
returns-then-source-start c = λ base. rest_none c.requires.1 _ _ base _ (rw c.source-source.ensures at c.if-source-start.true)

pub push_read-requires : goal.push_read-requires
push_read-requires c = (c.requires.0, rest_line_lem c.requires.1 (rw c.source-source.ensures at c.if-source-start.false) (rw c.source-source.ensures at c.outline_line-end.ensures.ends))

pub overflow_add-end : goal.overflow_add-end
overflow_add-end c = omega (arith, line_within (rest_line_lem c.requires.1 (rw c.source-source.ensures at c.if-source-start.false) (rw c.source-source.ensures at c.outline_line-end.ensures.ends)))

pub push_unread_rows-requires : goal.push_unread_rows-requires
push_unread_rows-requires c = rw c.source-source.ensures (rest_needs c.requires.1 _ _ 0 _ (rw c.source-source.ensures at c.if-source-start.false) (rw c.source-source.ensures at c.outline_line-end.ensures.ends) c.push_read.ensures.text c.push_read.ensures.start_bound)

pub returns : goal.returns
returns c = λ base. rest_all c.requires.1 _ _ base _ (rw c.source-source.ensures at c.if-source-start.false) (rw c.source-source.ensures at c.outline_line-end.ensures.ends) c.push_read.ensures.text c.push_read.ensures.start_bound (rw c.source-source.ensures at c.push_unread_rows.ensures)
