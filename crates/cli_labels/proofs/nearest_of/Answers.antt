-- The call goes by the script; one over the limit is refused by its length.
use Rattle.cli_labels.proofs.Told.{nearest_long}
use Rattle.cli_labels.proofs.nearest_of.Goals as goal

pub returns-in-TooLong : goal.returns-in-TooLong
returns-in-TooLong c = λ s i. let k = rw c.in-TooLong.is at i in nearest_long c.args.work.now.json c.args.work.now.base _ s k.1 k.2 c.args.work.now.address
