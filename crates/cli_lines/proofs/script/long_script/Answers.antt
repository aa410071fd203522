-- The table first. Assumes nothing.
use Rattle.cli_lines.proofs.Fronts.{long_alone, long_accepted, long_refused}
use Rattle.cli_lines.proofs.script.long_script.Goals as goal

pub returns-in-Ok : goal.returns-in-Ok
returns-in-Ok c = rw c.in-Some.is (long_accepted c.in-Some.table.now c.args.total _ c.in-Ok.ensures)

pub returns-in-Err : goal.returns-in-Err
returns-in-Err c = rw c.in-Some.is (long_refused c.in-Some.table.now c.args.total _ _ c.in-Err.ensures)

pub returns-in-None : goal.returns-in-None
returns-in-None c = rw c.in-None.is (long_alone c.args.total)
