-- `benchtext::row_text` meets its contract. Assumes nothing.
use mathlib.Core.Path.{sym, ◌∙◌}
use mathlib.Core.Bool.{false≢true}
use native.Mathlib.Omega.{arith}
use Rattle.station.proofs.Printed.{printed_none}
use Rattle.benchtext.proofs.Rows.{row_failed, row_kept, row_enough}
use Rattle.benchtext.proofs.row_text.Goals as goal

pub returns-then-input : goal.returns-then-input
returns-then-input c =
    let a = c.args in
    record { printed = rw (row_failed a.given a.input a.list.now a.row c.if-input.true) (printed_none _); list_value = (λ t r. row_enough _ _ _ _ t (λ f. absurd (false≢true (sym f ∙ c.if-input.true))) r) }

pub returns : goal.returns
returns c =
    let a = c.args in
    let n = c.min.result in
    record { printed = rw (← (row_kept a.given a.input a.list.now a.row c.if-input.false n (omega arith))) c.parsed_row.ensures; list_value = (λ t r. row_enough _ _ _ _ t (λ f. omega arith) r) }
