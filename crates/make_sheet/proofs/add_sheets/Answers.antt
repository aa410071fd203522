-- A sheet more, or one that cannot be added. Assumes nothing.
use Rattle.std.proofs.Common.{refl, ◌∙◌}
use Rattle.std.proofs.lemmas.Result.{err_from_is_err_and}
use Rattle.make_sheet.proofs.Feeding.{no_sheets, sheet_next, sheet_last, sheets_over}
use Rattle.make_sheet.proofs.add_sheets.Goals as goal

pub loop-k-init : goal.loop-k-init
loop-k-init g c = record { sheets = no_sheets _; silent = refl }

pub loop-k-preserved : goal.loop-k-preserved
loop-k-preserved g c =
    record {
      sheets = sheet_next _ (λ s. s.now) c.args.sheets.now _ c.loop-k-test.true c.loop-k.invariant.sheets c.in_ok-totals.ensures.sum;
      silent = c.in_ok-totals.ensures.silent ∙ c.loop-k.invariant.silent;
    }

pub returns-in_err-totals-clause-sum : goal.returns-in_err-totals-clause-sum
returns-in_err-totals-clause-sum g c =
    let p = err_from_is_err_and c.from_residual.result c.from_residual.ensures.1 in
    rw (p.1, p.2)
    (sheet_last _ (λ s. s.now) c.args.sheets.now _ c.loop-k-test.true c.loop-k.invariant.sheets c.in_err-totals.ensures.sum (rw c.loop-k.invariant.silent at c.in_err-totals.ensures.said))

pub returns-clause-sum : goal.returns-clause-sum
returns-clause-sum g c = sheets_over _ (λ s. s.now) c.args.sheets.now c.loop-k-test.false c.loop-k.invariant.sheets
