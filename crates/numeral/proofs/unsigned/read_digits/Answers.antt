-- `read_digits` meets its contract: what is left to read, after the value so far, reads as the whole. Assumes nothing.
use Rattle.std.proofs.Common.{sym, arith}
use borrow.Author.Tests.{eqb-false}
use Rattle.numeral.proofs.Reading.{begin, bad_digit_lem, past}
use Rattle.numeral.proofs.unsigned.read_digits.Goals as goal

pub loop-i-init : goal.loop-i-init
loop-i-init c = let a = c.args in begin a.radix a.bound a.t.now (eqb-false _ 0 (sym c.if-is_empty.ensures))

pub returns-then-d-r : goal.returns-then-d-r
returns-then-d-r c = bad_digit_lem c.loop-i.invariant _ (omega arith) c.digit_value.ensures (omega arith)

pub returns-then-v-bound : goal.returns-then-v-bound
returns-then-v-bound c =
    let k = rw (c.from-r.ensures, c.from-d.ensures) at c.if-v-bound.true in
    past c.loop-i.invariant _ (omega arith) c.digit_value.ensures (omega arith) k c.past_bound.ensures
