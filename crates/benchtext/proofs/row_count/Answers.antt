-- `benchtext::row_count` meets its contract. Assumes nothing.
use mathlib.Core.Path.{sym, ◌∙◌}
use mathlib.Core.Bool.{false≢true}
use native.Mathlib.Omega.{arith}
use Rattle.benchtext.proofs.Rows.{rows_failed, rows_kept, rows_enough}
use Rattle.benchtext.proofs.row_count.Goals as goal

pub returns-then-input : goal.returns-then-input
returns-then-input c = record { value = rows_failed _ _ _ c.if-input.true; list_value = (λ t r. rows_enough _ _ _ t (λ f. absurd (false≢true (sym f ∙ c.if-input.true))) r) }

pub returns : goal.returns
returns c =
    let a = c.args in
    let n = c.min.result in
    record { value = c.parsed_rows.ensures ∙ rows_kept a.given a.input a.list.now c.if-input.false n (omega arith); list_value = (λ t r. rows_enough _ _ _ t (λ f. omega arith) r) }
