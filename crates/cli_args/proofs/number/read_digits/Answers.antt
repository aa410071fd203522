-- `read_digits` meets its contract: what is left to read, after the value so far, reads as the whole.
use Rattle.std.proofs.Common.{◌∙◌, sym, arith}
use borrow.Author.Tests.{eqb-false}
use Rattle.cli_args.proofs.Reading.{begin, bad_digit, past, step}
use Rattle.cli_args.proofs.number.read_digits.Goals as goal

pub loop-i-init : goal.loop-i-init
loop-i-init c = let a = c.args in begin a.radix a.greatest a.digits.now (eqb-false _ 0 (sym c.if-is_empty.ensures))

pub returns-then-digit-radix-clause-value : goal.returns-then-digit-radix-clause-value
returns-then-digit-radix-clause-value c = bad_digit c.loop-i.invariant _ (omega arith) (c.from-digit.ensures ∙ c.digit_value.ensures) (omega arith)

pub returns-in-None-clause-value : goal.returns-in-None-clause-value
returns-in-None-clause-value c = past c.loop-i.invariant c.from-digit.result (omega arith) (c.from-digit.ensures ∙ c.digit_value.ensures) (omega arith) c.in-None.ensures

pub loop-i-preserved : goal.loop-i-preserved
loop-i-preserved c = step c.loop-i.invariant c.from-digit.result (omega arith) (c.from-digit.ensures ∙ c.digit_value.ensures) (omega arith) c.in-Some.ensures.0 c.in-Some.ensures.1
