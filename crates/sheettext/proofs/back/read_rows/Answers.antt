-- `read_rows` has before each byte the numbers so far. Assumes nothing.
use native.Mathlib.Omega.{arith}
use Rattle.sheettext.proofs.ReadBack.{rowed_more, rowed_end}
use Rattle.sheettext.proofs.back.read_rows.Goals as goal

pub loop-byte-preserved : goal.loop-byte-preserved
loop-byte-preserved c = rowed_more c.loop-byte.invariant (omega arith) c.with_byte.ensures c.next_row-row.ensures

pub returns : goal.returns
returns c = rowed_end c.loop-byte.invariant (omega arith)
