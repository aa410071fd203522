-- The table first. Assumes nothing.
use Rattle.make_lines.proofs.Under.{long_alone, long_accepted, long_refused}
use Rattle.make_lines.proofs.script.long_script.Goals as goal

pub returns-then-not-lent : goal.returns-then-not-lent
returns-then-not-lent c = long_alone c.args.lent c.args.table.now c.args.total c.if-not-lent.true

pub returns-in-Ok : goal.returns-in-Ok
returns-in-Ok c = long_accepted c.args.lent c.args.table.now c.args.total c.if-not-lent.false _ c.in-Ok.ensures

pub returns-in-Err : goal.returns-in-Err
returns-in-Err c = long_refused c.args.lent c.args.table.now c.args.total c.if-not-lent.false _ _ c.in-Err.ensures
