-- `arguments::read_limit` meets its contract: what is left to read, after the value so far, reads as the whole. Assumes nothing.
use Prim.Native.Nat.{◌+◌, ◌*◌}
use mathlib.Core.Path.{◌≡◌, sym, ◌∙◌}
use native.Mathlib.Omega.{arith}
use borrow.Author.Tests.{eqb-true, eqb-false}
use Rattle.benchtext.proofs.Counting.{not_below, nothing_read, begins, ends, bad_digit_lem, too_high, goes_on}
use Rattle.benchtext.proofs.arguments.read_limit.Goals as goal

pub returns-then-is_empty : goal.returns-then-is_empty
returns-then-is_empty c = nothing_read c.args.t.now (eqb-true _ 0 (sym c.if-is_empty.ensures))

pub loop-b-init : goal.loop-b-init
loop-b-init c = begins c.args.t.now (eqb-false _ 0 (sym c.if-is_empty.ensures))

pub returns-then-d-ge10 : goal.returns-then-d-ge10
returns-then-d-ge10 c = bad_digit_lem c.loop-b.invariant _ c.loop-b-test.true c.digit_value.ensures (omega arith)

pub returns-in_err-checked_mul : goal.returns-in_err-checked_mul
returns-in_err-checked_mul c =
    let over = not_below _ _ c.in_err-checked_mul.ensures in
    rw c.from_residual.ensures (too_high c.loop-b.invariant c.from-d.result c.loop-b-test.true (c.from-d.ensures ∙ c.digit_value.ensures) (omega arith) (omega arith))

pub returns-in_err-v : goal.returns-in_err-v
returns-in_err-v c =
    let product = c.in_ok-checked_mul.ensures.1 in
    let over = not_below _ _ c.in_err-v.ensures in
    rw c.from_residual-in_err-v.ensures (too_high c.loop-b.invariant c.from-d.result c.loop-b-test.true (c.from-d.ensures ∙ c.digit_value.ensures) (omega arith) (omega arith))

pub loop-b-preserved : goal.loop-b-preserved
loop-b-preserved c =
    let product = c.in_ok-checked_mul.ensures.1 in
    let sum = c.in_ok-v.ensures.1 in
    let below = c.in_ok-v.ensures.0 in
    let value : c.in_ok-v.v ≡ c.loop-b.v * 10 + c.from-d.result = omega arith in
    rw value (goes_on c.loop-b.invariant c.from-d.result c.loop-b-test.true (c.from-d.ensures ∙ c.digit_value.ensures) (omega arith) (omega arith))

pub returns : goal.returns
returns c = ends c.loop-b.invariant c.loop-b-test.false
