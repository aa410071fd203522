-- What the call answered.
use Rattle.std.proofs.Common.{arith}
use Rattle.tidytext.proofs.Told.{copy_printed}
use Rattle.tidytext.proofs.write_copy.Goals as goal

pub returns : goal.returns
returns c = rw c.unwrap_or.ensures (copy_printed _ c.args.out.now (omega arith) c.tidy_copy.ensures.out_after _ c.tidy_copy.ensures.value)
