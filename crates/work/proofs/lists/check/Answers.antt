-- The table is lent where one is named.
use Rattle.work.proofs.lists.check.Goals as goal

pub returns : goal.returns
returns g c = (c.plain-joining.result, c.plain-joining.ensures, rw c.is_some-lent.ensures at c.each.ensures)
