-- `take_byte` meets its contract: the record is not yet whole, too long, or judged. Assumes nothing.
use Rattle.std.proofs.Common.{refl}
use Rattle.recorded.proofs.Fed.{byte_part, byte_long, byte_last}
use Rattle.recorded.proofs.take_byte.Goals as goal

pub returns-then-n-record_size : goal.returns-then-n-record_size
returns-then-n-record_size c = byte_part _ _ _ _ c.min-at.ensures _ refl _ c.record_size.ensures c.if-n-record_size.true

pub returns-then-n-gt-RECORD : goal.returns-then-n-gt-RECORD
returns-then-n-gt-RECORD c = byte_long _ _ _ _ c.min-at.ensures _ refl _ c.record_size.ensures c.if-n-record_size.false c.if-n-gt-RECORD.true _ c.counted.ensures

pub returns : goal.returns
returns c = byte_last _ _ _ _ c.min-at.ensures _ refl _ c.record_size.ensures c.if-n-record_size.false c.if-n-gt-RECORD.false _ c.judge.ensures _ c.counted-2.ensures
