-- `next_row` goes on at byte 10. Assumes nothing.
use Rattle.sheettext.proofs.ReadBack.{row_same, row_next}
use Rattle.sheettext.proofs.back.next_row.Goals as goal

pub returns-then-byte-eq10 : goal.returns-then-byte-eq10
returns-then-byte-eq10 c = row_next _ _ c.if-byte-eq10.true c.min.ensures

pub returns-else-byte-eq10 : goal.returns-else-byte-eq10
returns-else-byte-eq10 c = row_same _ _ c.if-byte-eq10.false
