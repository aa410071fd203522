-- `kept_length` leaves out blanks from the end on. Assumes nothing.
use Rattle.std.proofs.Common.{arith}
use Rattle.text.proofs.Kept.{kept_start, kept_more, kept_stop, kept_end}
use Rattle.text.proofs.kept_length.Goals as goal

pub loop-i-init : goal.loop-i-init
loop-i-init c = kept_start _

pub returns-then-not-is_blank : goal.returns-then-not-is_blank
returns-then-not-is_blank c = kept_stop _ _ (omega arith) (omega arith) c.is_blank.ensures c.if-not-is_blank.true c.loop-i.invariant

pub loop-i-preserved : goal.loop-i-preserved
loop-i-preserved c = kept_more _ _ (omega arith) (omega arith) c.is_blank.ensures c.if-not-is_blank.false c.loop-i.invariant

pub returns : goal.returns
returns c = kept_end _ _ c.loop-i-test.false c.loop-i.invariant
