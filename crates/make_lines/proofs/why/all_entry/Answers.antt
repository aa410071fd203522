-- The entry of all verdicts. Assumes nothing.
use Rattle.std.proofs.Common.{◌∙◌, sym, replicate}
use Rattle.explain.specs.declared.Verdict.TheVariants.{Emitted}
use Rattle.make_lines.specs.Lines.{lent_of}
use Rattle.make_lines.proofs.Told.{entries_told, entries_stopped}
use Rattle.make_lines.proofs.why.all_entry.Goals as goal

pub returns-in-Ok-entry : goal.returns-in-Ok-entry
returns-in-Ok-entry c =
    let w = c.args.work.now in
    entries_told w.base c.args.name.now (lent_of w.lent c.args.table.now) c.args.source.now c.in-Ok.count (replicate 4096 Emitted) _ _ c.in-Ok.ensures.value c.in-Ok.ensures.verdicts_after c.in-Ok-entry.ensures

pub returns-in-Err : goal.returns-in-Err
returns-in-Err c =
    let w = c.args.work.now in
    entries_stopped w.base c.args.name.now (lent_of w.lent c.args.table.now) c.args.source.now _ _ c.in-Err.ensures.value ∙ sym c.stop_of.ensures
