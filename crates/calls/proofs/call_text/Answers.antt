-- `call_text` goes by the call's number. Assumes nothing.
use native.Mathlib.Omega.{arith}
use borrow.Author.Tests.{ne_eqb}
use Rattle.station.proofs.Printed.{printed_none}
use Rattle.calls.specs.Calls.{call_text}
use Rattle.calls.proofs.call_text.Goals as goal

pub returns-in-2 : goal.returns-in-2
unfolding call_text
returns-in-2 c = rw c.in-2.is c.nearest_text.ensures

pub returns-in-3 : goal.returns-in-3
unfolding call_text
returns-in-3 c = rw c.in-3.is c.write_symbols.ensures

pub returns-in-4 : goal.returns-in-4
unfolding call_text
returns-in-4 c = rw c.in-4.is c.line_number_text.ensures

pub returns-in-5 : goal.returns-in-5
unfolding call_text
returns-in-5 c = rw c.in-5.is c.write_line_verdict.ensures

pub returns-in-6 : goal.returns-in-6
unfolding call_text
returns-in-6 c = rw c.in-6.is c.write_manual.ensures

pub returns-in-7 : goal.returns-in-7
unfolding call_text
returns-in-7 c = rw c.in-7.is c.list_under_text.ensures

pub returns-in-8 : goal.returns-in-8
unfolding call_text
returns-in-8 c = rw c.in-8.is c.lines_under_text.ensures

pub returns-in-9 : goal.returns-in-9
unfolding call_text
returns-in-9 c = rw c.in-9.is c.write_tidied.ensures

pub returns-in-10 : goal.returns-in-10
unfolding call_text
returns-in-10 c = rw c.in-10.is c.run_text.ensures

pub returns-in-11 : goal.returns-in-11
unfolding call_text
returns-in-11 c = rw c.in-11.is c.sheet_text.ensures

pub returns-in_default : goal.returns-in_default
unfolding call_text
returns-in_default c =
    rw
    (ne_eqb c.args.call 2 (omega arith), ne_eqb c.args.call 3 (omega arith), ne_eqb c.args.call 4 (omega arith), ne_eqb c.args.call 5 (omega arith), ne_eqb c.args.call 6 (omega arith), ne_eqb c.args.call 7 (omega arith), ne_eqb c.args.call 8 (omega arith), ne_eqb c.args.call 9 (omega arith), ne_eqb c.args.call 10 (omega arith), ne_eqb c.args.call 11 (omega arith))
    (printed_none _)
