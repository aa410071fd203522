-- The table is lent where one is named.
use Rattle.work.proofs.lists.assemble.Goals as goal

pub returns-then-asked : goal.returns-then-asked
returns-then-asked g c = rw c.if-asked.true (rw c.is_some-lent.ensures at c.one.ensures)

pub returns-else-asked : goal.returns-else-asked
returns-else-asked g c = rw c.if-asked.false (rw c.is_some-lent.ensures at c.one-else-asked.ensures)
