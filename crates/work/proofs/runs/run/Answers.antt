-- The threshold is the one that is asked for.
use Rattle.work.proofs.runs.run.Goals as goal

pub returns-then-asked : goal.returns-then-asked
returns-then-asked g c = rw c.if-asked.true (rw c.tries_of-tries.ensures at c.one.ensures)

pub returns-else-asked : goal.returns-else-asked
returns-else-asked g c = rw c.if-asked.false (rw c.tries_of-tries.ensures at c.one-else-asked.ensures)
