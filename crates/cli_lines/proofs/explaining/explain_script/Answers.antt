-- Its verdicts are written, or it is refused. Assumes nothing.
use Rattle.cli_lines.specs.Lines.{table_text, first_line, verdicts_on}
use Rattle.cli_lines.specs.State.{written}
use Rattle.cli_lines.proofs.Steps.{entry_told, entry_refused}
use Rattle.cli_lines.proofs.explaining.explain_script.Goals as goal

pub returns-in-Ok-script_text : goal.returns-in-Ok-script_text
returns-in-Ok-script_text c = λ t b h i.
    let w = c.args.work.now in
    entry_told (written w.json w.line w.headed) (first_line w.line) t b (verdicts_on w.line w.base (table_text t) b.text) _ c.args.input.name.now _
    (c.in-Ok.ensures.answer t b h i) i.name c.in-Ok-script_text.ensures

pub returns-in-Err : goal.returns-in-Err
returns-in-Err c = λ t b h i.
    let w = c.args.work.now in
    entry_refused (written w.json w.line w.headed) (first_line w.line) t b (verdicts_on w.line w.base (table_text t) b.text) _ _ _
    (c.in-Err.ensures.answer t b h i) (c.failure_of.ensures 32768 t b h i)
