-- The distance is the one that is asked for.
use Rattle.work.proofs.lists.move_list.Goals as goal

pub returns : goal.returns
returns g c = rw c.moving_of-work.ensures at c.one.ensures
