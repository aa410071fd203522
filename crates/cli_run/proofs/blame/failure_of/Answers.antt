-- It speaks of the input.
use Rattle.std.proofs.Common.{sym, ◌∙◌}
use Rattle.cli_run.proofs.Blamed.{input_blamed, no_table}
use Rattle.cli_run.proofs.blame.failure_of.Goals as goal

pub returns-else-is_of_table : goal.returns-else-is_of_table
returns-else-is_of_table c = λ kept t b h i. input_blamed kept t b _ _ _ (sym c.is_of_table.ensures ∙ c.if-is_of_table.false) (c.input_failure.ensures kept b i)

pub returns-in-None : goal.returns-in-None
returns-in-None c = λ kept t b h i. rw (no_table t _ c.in-None.is h) (c.input_failure-in-None.ensures kept b i)
