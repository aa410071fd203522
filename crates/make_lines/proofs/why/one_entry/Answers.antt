-- The verdict's entry. Assumes nothing.
use Rattle.std.proofs.Common.{◌≤◌, ◌∙◌, sym, arith}
use Rattle.make_lines.specs.Lines.{lent_of}
use Rattle.make_lines.proofs.Few.{line_few}
use Rattle.make_lines.proofs.Told.{entry_told, entry_stopped}
use Rattle.make_lines.proofs.why.one_entry.Goals as goal

pub entry-requires : goal.entry-requires
entry-requires c =
    let few : c.args.line ≤ 4096 = line_few (lent_of c.args.work.now.lent c.args.table.now) c.args.work.now.base c.args.line c.args.source.now c.in-Ok.verdict c.in-Ok.ensures in
    omega arith

pub returns-in-Ok-entry : goal.returns-in-Ok-entry
returns-in-Ok-entry c =
    let w = c.args.work.now in
    entry_told w.base c.args.name.now (lent_of w.lent c.args.table.now) c.args.source.now c.args.line c.in-Ok.verdict _ c.in-Ok.ensures c.in-Ok-entry.ensures

pub returns-in-Err : goal.returns-in-Err
returns-in-Err c =
    let w = c.args.work.now in
    entry_stopped w.base c.args.name.now (lent_of w.lent c.args.table.now) c.args.source.now c.args.line _ _ c.in-Err.ensures ∙ sym c.stop_of.ensures
