-- `nearest_label` goes by what the first pass answered. Assumes nothing.
use Rattle.std.proofs.Common.{sym, ◌∙◌}
use Rattle.std.proofs.lemmas.Result.{err_from_is_err_and}
use Rattle.nearest.proofs.Told.{ok_or_some, ok_or_none, call_refused, call_at, call_nothing}
use Rattle.nearest.proofs.nearest_label.Goals as goal

pub returns-in_err-enter : goal.returns-in_err-enter
returns-in_err-enter c =
    let p = err_from_is_err_and c.from_residual.result c.from_residual.ensures.1 in
    rw (p.1, p.2) (call_refused _ _ c.new-labels.ensures.source _ _ c.in_err-enter.ensures.answer)

pub returns-in_err-row : goal.returns-in_err-row
returns-in_err-row c =
    let p = err_from_is_err_and c.from_residual-in_err-row.result c.from_residual-in_err-row.ensures.1 in
    let n = ok_or_none _ _ (sym c.ok_or.ensures.value ∙ c.in_err-row.was) in
    rw (p.1, p.2, n.1) (call_nothing _ _ c.new-labels.ensures.source c.in_ok-enter.ensures.answer (n.0 ∙ c.nearest_row.ensures.nearest))

pub returns : goal.returns
returns c = call_at _ _ c.new-labels.ensures.source c.in_ok-enter.ensures.answer _ (ok_or_some _ _ (sym c.ok_or.ensures.value ∙ c.in_ok-row.was) ∙ c.nearest_row.ensures.nearest)
