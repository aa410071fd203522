-- `take_bytes` meets its contract: the bytes that are left are still to be taken. Assumes nothing.
use Rattle.std.proofs.Common.{arith, rules}
use Rattle.recorded.proofs.Fed.{feeding_more, feeding_all}
use Rattle.recorded.proofs.take_bytes.Goals as goal

pub loop-byte-preserved : goal.loop-byte-preserved
loop-byte-preserved c = (search rules, feeding_more c.loop-byte.invariant.1 _ (omega arith) (omega arith) c.take_byte-state.ensures)

pub returns : goal.returns
returns c = feeding_all c.loop-byte.invariant.1 (omega arith)
