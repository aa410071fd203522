-- The work is the one that is asked for.
use Rattle.work.proofs.lines.list.Goals as goal

pub returns : goal.returns
returns g c = (c.plain-joining.result, c.plain-joining.ensures, rw c.printing_of-work.ensures at c.each.ensures)
