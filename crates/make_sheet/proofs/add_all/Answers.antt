-- The sheets and then the scripts. Assumes nothing.
use Rattle.std.proofs.Common.{◌∙◌}
use Rattle.std.proofs.lemmas.Result.{err_from_is_err_and}
use Rattle.make_sheet.specs.Reading.{Telling}
use Rattle.make_sheet.proofs.Concluding.{unopened, totals_over}
use Rattle.make_sheet.proofs.add_all.Goals as goal

pub returns-in_err-from-clause-sum : goal.returns-in_err-from-clause-sum
returns-in_err-from-clause-sum g c =
    let p = err_from_is_err_and c.from_residual-in_err-from.result c.from_residual-in_err-from.ensures.1 in
    rw (p.1, p.2)
    (unopened _ (Telling (g.E.Write.contents c.args.errors.now) (g.E.Write.contents c.open_names.new.errors)) _ _ _ c.in_ok-totals.ensures.sum _ c.in_err-from.ensures.err
    (rw c.in_ok-totals.ensures.silent at c.in_err-from.ensures.said))

pub returns-clause-sum : goal.returns-clause-sum
returns-clause-sum g c =
    totals_over _ (Telling (g.E.Write.contents c.args.errors.now) (g.E.Write.contents c.add_names.new.errors)) _ _ _ c.in_ok-totals.ensures.sum c.in_ok-from.ensures.ok _
    (rw (c.in_ok-from.ensures.silent ∙ c.in_ok-totals.ensures.silent, c.named.ensures) at c.add_names.ensures.sum)
