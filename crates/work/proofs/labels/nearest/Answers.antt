-- By whether JSON is asked for.
use Rattle.work.proofs.labels.nearest.Goals as goal

pub returns-then-asked : goal.returns-then-asked
returns-then-asked g c = rw c.if-asked.true c.one.ensures

pub returns-else-asked : goal.returns-else-asked
returns-else-asked g c = rw c.if-asked.false c.one-else-asked.ensures
