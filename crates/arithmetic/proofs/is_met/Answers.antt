-- `is_met` is the table's row. Assumes nothing.
use Rattle.machine.specs.Flags.{holds}
use Rattle.arithmetic.proofs.Conditions.{same_sign, other_sign, greater, not_greater, less}
use Rattle.arithmetic.proofs.is_met.Goals as goal

pub returns-in-12 : goal.returns-in-12
unfolding holds
returns-in-12 c = rw c.in-12.is (same_sign c.args.f.n c.args.f.v)

pub returns-in-13 : goal.returns-in-13
unfolding holds
returns-in-13 c = rw c.in-13.is (other_sign c.args.f.n c.args.f.v)

pub returns-then-not-f-2 : goal.returns-then-not-f-2
unfolding holds
returns-then-not-f-2 c = rw c.in-14.is (greater c.args.f.n c.args.f.z c.args.f.v c.if-not-f-2.true)

pub returns-else-not-f-2 : goal.returns-else-not-f-2
unfolding holds
returns-else-not-f-2 c = rw c.in-14.is (not_greater c.args.f.n c.args.f.z c.args.f.v c.if-not-f-2.false)

pub returns-else-f-2 : goal.returns-else-f-2
unfolding holds
returns-else-f-2 c = rw c.in-15.is (less c.args.f.n c.args.f.z c.args.f.v c.if-f-2.false)
