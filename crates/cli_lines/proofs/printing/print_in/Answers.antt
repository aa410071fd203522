-- Its listing, or its refusal. Assumes nothing.
use Rattle.std.proofs.Common.{◌∙◌, ap}
use Rattle.printout.specs.Printout.{printout_of}
use Rattle.cli_lines.specs.Lines.{table_text, headed}
use Rattle.cli_lines.proofs.Steps.{page_told, page_refused}
use Rattle.cli_lines.proofs.printing.print_in.Goals as goal

pub returns-in-Ok-under_head : goal.returns-in-Ok-under_head
returns-in-Ok-under_head c = λ t b h i.
    let w = c.args.work.now in
    let q = c.in-Ok.ensures.page t b h i in
    page_told (headed w.headed) t b (printout_of (table_text t) w.base b.text) q.0 c.args.input.name.now _ q.1 i.name
    (c.in-Ok-under_head.ensures ∙ ap (headed w.headed c.args.input.name.now) q.2.front)

pub returns-in-Err : goal.returns-in-Err
returns-in-Err c = λ t b h i.
    let w = c.args.work.now in
    let q = c.in-Err.ensures.page t b h i in
    page_refused (headed w.headed) t b (printout_of (table_text t) w.base b.text) _ _ _ q.0 (c.failure_of.ensures 32768 t b h i)
