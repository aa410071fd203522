-- A script over the limit is refused by its length.
use Rattle.std.proofs.Common.{arith}
use Rattle.make_lists.proofs.Copies.{copy_long}
use Rattle.make_lists.proofs.tidying.tidy_input.Goals as goal

pub returns-then-input-gt-MAX_SOURCE : goal.returns-then-input-gt-MAX_SOURCE
returns-then-input-gt-MAX_SOURCE c = λ s r. copy_long s (omega (arith, r.total)) _ r.total
