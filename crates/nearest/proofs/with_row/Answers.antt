-- `with_row` passes over a label past the address, and keeps the nearer of two. Assumes nothing.
use Rattle.nearest.proofs.Walk.{row_alone, row_nearer, row_further}
use Rattle.nearest.proofs.with_row.Goals as goal

pub returns-in_default : goal.returns-in_default
returns-in_default c = λ l o e f. row_alone _ l o e c.if-address-row.false (rw c.in_default.is at f)

pub returns-then-is_nearer : goal.returns-then-is_nearer
returns-then-is_nearer c = λ l o e f. row_nearer _ l o e c.if-address-row.false (rw c.in-Some.is at f) c.is_nearer.ensures c.if-is_nearer.true

pub returns : goal.returns
returns c = λ l o e f. row_further _ l o e c.if-address-row.false (rw c.in-Some.is at f) c.is_nearer.ensures c.if-is_nearer.false
