-- The rows. Assumes nothing.
use Rattle.std.proofs.Common.{◌∙◌, sym, replicate}
use Rattle.explain.specs.declared.Verdict.TheVariants.{Emitted}
use Rattle.make_lines.specs.Lines.{lent_of, headed}
use Rattle.make_lines.proofs.Told.{all_told, all_stopped}
use Rattle.make_lines.proofs.why.all_text.Goals as goal

pub returns-in-Ok-under_head : goal.returns-in-Ok-under_head
returns-in-Ok-under_head c =
    let w = c.args.work.now in
    all_told w.base c.args.name.now (lent_of w.lent c.args.table.now) c.args.source.now (headed w.headed c.args.name.now) c.in-Ok.count (replicate 4096 Emitted) _ _ _ c.in-Ok.ensures.value c.in-Ok.ensures.verdicts_after
    (c.deref.ensures.value ∙ c.in-Ok-rows.ensures) c.in-Ok-under_head.ensures

pub returns : goal.returns
returns c =
    let w = c.args.work.now in
    all_stopped w.base c.args.name.now (lent_of w.lent c.args.table.now) c.args.source.now (headed w.headed c.args.name.now) _ _ c.in-Err.ensures.value ∙ sym c.stop_of.ensures
