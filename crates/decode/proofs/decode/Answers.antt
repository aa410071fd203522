-- `decode::decode` meets its contract. Assumes nothing.
use borrow.Author.Tests.{eq-eqb, ne_eqb}
use Rattle.machine.specs.Decode.{decode_of}
use Rattle.decode.proofs.decode.Goals as goal

pub returns-in-2 : goal.returns-in-2
unfolding decode_of
returns-in-2 c = rw (c.in-2.is, eq-eqb _ _ c.if-w-m.true)

pub returns-in-2-2 : goal.returns-in-2-2
unfolding decode_of
returns-in-2-2 c = rw (c.in-2.is, ne_eqb _ _ c.if-w-m.false, eq-eqb _ _ c.if-w-m-2.true)

pub returns-in-3 : goal.returns-in-3
unfolding decode_of
returns-in-3 c = rw (c.in-3.is, eq-eqb _ _ c.if-w-m-3.true)

pub returns-in-4 : goal.returns-in-4
unfolding decode_of
returns-in-4 c = rw (c.in-4.is, eq-eqb _ _ c.if-w-n.true)

pub returns-in-4-2 : goal.returns-in-4-2
unfolding decode_of
returns-in-4-2 c = rw (c.in-4.is, ne_eqb _ _ c.if-w-n.false, eq-eqb _ _ c.if-w-eq20081.true)

pub returns-in-4-3 : goal.returns-in-4-3
unfolding decode_of
returns-in-4-3 c = rw (c.in-4.is, ne_eqb _ _ c.if-w-n.false, ne_eqb _ _ c.if-w-eq20081.false, eq-eqb _ _ c.if-w-eq20082.true)

pub returns-in-5 : goal.returns-in-5
unfolding decode_of
returns-in-5 c = rw (c.in-5.is, eq-eqb _ _ c.if-w-m-4.true)

pub returns-in-7 : goal.returns-in-7
unfolding decode_of
returns-in-7 c = rw (c.in-7.is, eq-eqb _ _ c.if-w-m-5.true)

pub returns-in-9 : goal.returns-in-9
unfolding decode_of
returns-in-9 c = rw (c.in-9.is, eq-eqb _ _ c.if-w-m-6.true)

pub returns-in-11 : goal.returns-in-11
unfolding decode_of
returns-in-11 c = rw (c.in-11.is, eq-eqb _ _ c.if-w-m-7.true)

pub returns-in-12 : goal.returns-in-12
unfolding decode_of
returns-in-12 c = rw (c.in-12.is, eq-eqb _ _ c.if-w-m-8.true)

pub returns-in-12-2 : goal.returns-in-12-2
unfolding decode_of
returns-in-12-2 c = rw (c.in-12.is, ne_eqb _ _ c.if-w-m-8.false, eq-eqb _ _ c.if-w-m-9.true)

pub returns-in-13 : goal.returns-in-13
unfolding decode_of
returns-in-13 c = rw (c.in-13.is, eq-eqb _ _ c.if-w-m-10.true)

pub returns-in-14 : goal.returns-in-14
unfolding decode_of
returns-in-14 c = rw (c.in-14.is, eq-eqb _ _ c.if-w-m-11.true)

pub returns-in_default : goal.returns-in_default
unfolding decode_of
returns-in_default c = rw (c.in-2.is, ne_eqb _ _ c.if-w-m.false, ne_eqb _ _ c.if-w-m-2.false)

pub returns-in_default-2 : goal.returns-in_default-2
unfolding decode_of
returns-in_default-2 c = rw (c.in-3.is, ne_eqb _ _ c.if-w-m-3.false)

pub returns-in_default-3 : goal.returns-in_default-3
unfolding decode_of
returns-in_default-3 c = rw (c.in-4.is, ne_eqb _ _ c.if-w-n.false, ne_eqb _ _ c.if-w-eq20081.false, ne_eqb _ _ c.if-w-eq20082.false)

pub returns-in_default-4 : goal.returns-in_default-4
unfolding decode_of
returns-in_default-4 c = rw (c.in-5.is, ne_eqb _ _ c.if-w-m-4.false)

pub returns-in_default-5 : goal.returns-in_default-5
unfolding decode_of
returns-in_default-5 c = rw (c.in-7.is, ne_eqb _ _ c.if-w-m-5.false)

pub returns-in_default-6 : goal.returns-in_default-6
unfolding decode_of
returns-in_default-6 c = rw (c.in-9.is, ne_eqb _ _ c.if-w-m-6.false)

pub returns-in_default-7 : goal.returns-in_default-7
unfolding decode_of
returns-in_default-7 c = rw (c.in-11.is, ne_eqb _ _ c.if-w-m-7.false)

pub returns-in_default-8 : goal.returns-in_default-8
unfolding decode_of
returns-in_default-8 c = rw (c.in-12.is, ne_eqb _ _ c.if-w-m-8.false, ne_eqb _ _ c.if-w-m-9.false)

pub returns-in_default-9 : goal.returns-in_default-9
unfolding decode_of
returns-in_default-9 c = rw (c.in-13.is, ne_eqb _ _ c.if-w-m-10.false)

pub returns-in_default-10 : goal.returns-in_default-10
unfolding decode_of
returns-in_default-10 c = rw (c.in-14.is, ne_eqb _ _ c.if-w-m-11.false)
