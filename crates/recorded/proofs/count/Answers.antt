-- `count` meets its contract: the number tells whether there is a list. Assumes nothing.
use Rattle.std.proofs.Common.{arith, eq-eqb, ne_eqb}
use Rattle.recorded.specs.Recorded.{terms_in, count_of}
use Rattle.recorded.proofs.Bytes.{one_byte}
use Rattle.recorded.proofs.count.Goals as goal

pub returns-else-terms-eq0 : goal.returns-else-terms-eq0
unfolding count_of terms_in
returns-else-terms-eq0 c = rw (← (one_byte c.args.terms.now 20 (omega arith)), ne_eqb _ _ c.if-terms-eq0.false)

pub returns-then-terms-eq0 : goal.returns-then-terms-eq0
unfolding count_of terms_in
returns-then-terms-eq0 c = rw (← (one_byte c.args.terms.now 20 (omega arith)), eq-eqb _ _ c.if-terms-eq0.true) c.size_at.ensures.value
