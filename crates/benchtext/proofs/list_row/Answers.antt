-- `benchtext::list_row` meets its contract. Assumes nothing.
use Rattle.benchtext.specs.BenchText.{row_of}
use Rattle.benchtext.proofs.list_row.Goals as goal

pub returns-clause-printed : goal.returns-clause-printed
unfolding row_of
returns-clause-printed c = rw (← c.put_value.ensures, ← c.value_for-value.ensures) c.write_list_run.ensures
