-- `with_file` meets its contract, by the step. Assumes nothing.
use Rattle.std.proofs.Common.{rules}
use Rattle.sheettext.specs.Files.{file_step, with_file}
use Rattle.sheettext.proofs.files.with_file.Goals as goal

pub returns-in_err-step-clause-result_value : goal.returns-in_err-step-clause-result_value
unfolding file_step
returns-in_err-step-clause-result_value g c = search rules

pub returns-in_err-step-clause-result_value_2 : goal.returns-in_err-step-clause-result_value_2
unfolding with_file
returns-in_err-step-clause-result_value_2 g c = search rules
