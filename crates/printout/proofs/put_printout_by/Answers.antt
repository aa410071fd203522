-- `put_printout_by` goes by what the first pass answered. Assumes nothing.
use mathlib.Core.Path.{refl, ap, ◌∙◌}
use Rattle.std.proofs.lemmas.Result.{err_from_is_err_and}
use Rattle.label.specs.Labelled.{Labelled}
use Rattle.printout.proofs.Told.{refusal_put, page_put}
use Rattle.printout.proofs.put_printout_by.Goals as goal

pub returns : goal.returns
returns c =
    let p = c.in_ok-pass.ensures in
    let same = ap (λ (l : Labelled). l.source) p.labels ∙ c.new-labels.ensures.source in
    (_, page_put _ _ _ p.holds p.base same, c.write_page.ensures)

pub returns-in_err-pass : goal.returns-in_err-pass
returns-in_err-pass c =
    let p = err_from_is_err_and c.from_residual.result c.from_residual.ensures.1 in
    rw (p.1, p.2) (refusal_put _ _ _ (rw c.new-labels.ensures.source at c.in_err-pass.ensures.answer), refl)
