-- A script over the limit is refused by its length.
use Rattle.cli_lists.proofs.Copies.{copy_long}
use Rattle.cli_lists.proofs.tidying.tidy_contents.Goals as goal

pub returns-in-TooLong : goal.returns-in-TooLong
returns-in-TooLong c = λ s i. let k = rw c.in-TooLong.is at i in copy_long s k.2 _ k.1
