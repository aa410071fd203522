-- What is kept is enough. Assumes nothing.
use Rattle.cli_lines.specs.Lines.{verdicts_on}
use Rattle.cli_lines.proofs.Fronts.{verdicts_load, both_read, too_long}
use Rattle.cli_lines.proofs.explaining.script_verdicts.Goals as goal

pub returns-in-Whole-clause-answer : goal.returns-in-Whole-clause-answer
returns-in-Whole-clause-answer c = λ t b h i.
    let w = c.args.work.now in
    let j = rw c.in-Whole.is at i.text in
    rw (both_read (verdicts_on w.line w.base) (verdicts_load w.line w.base) t _ (c.table_names-names.ensures t h) c.in-Whole.source.now b.text j.0) at c.write_verdicts.ensures.answer

pub returns-in-TooLong-clause-answer : goal.returns-in-TooLong-clause-answer
returns-in-TooLong-clause-answer c = λ t b h i.
    let w = c.args.work.now in
    let j = rw c.in-TooLong.is at i.text in
    too_long (verdicts_on w.line w.base) (verdicts_load w.line w.base) t _ (c.table_names-names.ensures t h) b.text c.in-TooLong.total j.1 j.2 _ _ c.long_script.ensures
