-- The verdict's line. Assumes nothing.
use Rattle.std.proofs.Common.{◌∙◌, sym}
use Rattle.make_lines.specs.Lines.{lent_of, headed}
use Rattle.make_lines.proofs.Told.{one_told, one_stopped}
use Rattle.make_lines.proofs.why.one_text.Goals as goal

pub returns-in-Ok-under_head : goal.returns-in-Ok-under_head
returns-in-Ok-under_head c =
    let w = c.args.work.now in
    one_told w.base c.args.name.now (lent_of w.lent c.args.table.now) c.args.source.now c.args.line (headed w.headed c.args.name.now) c.in-Ok.verdict _ _ c.in-Ok.ensures c.put_line-n.ensures.front c.in-Ok-under_head.ensures

pub returns-in-Err : goal.returns-in-Err
returns-in-Err c =
    let w = c.args.work.now in
    one_stopped w.base c.args.name.now (lent_of w.lent c.args.table.now) c.args.source.now c.args.line (headed w.headed c.args.name.now) _ _ c.in-Err.ensures ∙ sym c.stop_of.ensures
