-- A row more is written. Assumes nothing.
use Rattle.std.proofs.Common.{◌+◌, ◌++◌, take, arith, sym, ap, ◌∙◌}
use Rattle.listing.proofs.Adding.{adds_none, adds_as, adds_both}
use Rattle.whytext.specs.WhyLine.{row_text}
use Rattle.whytext.specs.Verdicts.{line_of, rows_by}
use Rattle.whytext.proofs.Rows.{row_short, rows_by_none, rows_by_more}
use Rattle.whytext.proofs.push_rows.Goals as goal

pub loop-k-init : goal.loop-k-init
loop-k-init g c = record { text = adds_as (adds_none _ (omega arith)) (sym (rows_by_none _ c.args.verdicts.now)); short = omega arith }

pub loop-k-preserved : goal.loop-k-preserved
loop-k-preserved g c =
    let before = rows_by g.V.VerdictSign.verdict (take c.loop-k.k c.args.verdicts.now) in
    let is = c.verdict.ensures ∙ ap g.V.VerdictSign.verdict c.index-verdicts-k.is in
    let more = rows_by_more g.V.VerdictSign.verdict c.args.verdicts.now c.loop-k.k c.index-verdicts-k.result (omega arith) in
    record {
      text = adds_as (adds_both c.loop-k.invariant.text c.push_row.ensures) (ap (λ v. before ++ row_text (c.loop-k.k + 1) (line_of v)) is ∙ sym more);
      short = omega (arith, row_short (c.loop-k.k + 1) c.verdict.result (omega arith));
    }
