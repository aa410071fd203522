-- One verdict, or all. Assumes nothing.
use Rattle.std.proofs.Common.{arith}
use Rattle.std.specs.Option.{option_copied}
use Rattle.cli_lines.proofs.Backs.{one_written, one_refused, all_explained, from_one}
use Rattle.cli_lines.proofs.Few.{line_few}
use Rattle.cli_lines.proofs.verdicts.write_verdicts.Goals as goal

pub returns-in-Ok-clause-answer : goal.returns-in-Ok-clause-answer
returns-in-Ok-clause-answer c =
    rw c.in-Some.is (one_written c.args.base (option_copied c.args.names) c.args.source.now c.in-Some.line c.in-Ok.verdict c.args.verdicts.now c.in-Ok.ensures (omega arith))

pub returns-in-Ok-clause-few : goal.returns-in-Ok-clause-few
returns-in-Ok-clause-few c =
    rw c.in-Some.is (line_few (option_copied c.args.names) c.args.base c.in-Some.line c.args.source.now c.in-Ok.verdict c.in-Ok.ensures)

pub returns-in-Err-clause-answer : goal.returns-in-Err-clause-answer
returns-in-Err-clause-answer c =
    rw c.in-Some.is (one_refused c.args.base (option_copied c.args.names) c.args.source.now c.in-Some.line _ _ c.in-Err.ensures)

pub returns-in-None-clause-answer : goal.returns-in-None-clause-answer
returns-in-None-clause-answer c =
    rw c.in-None.is (all_explained c.args.base (option_copied c.args.names) c.args.source.now _ _ _ c.explain_each.ensures.value c.explain_each.ensures.verdicts_after)

pub returns-in-None-clause-few : goal.returns-in-None-clause-few
returns-in-None-clause-few c = rw c.in-None.is (from_one _)
