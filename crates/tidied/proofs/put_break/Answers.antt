-- `put_break` writes nothing where nothing is written. Assumes nothing.
use Rattle.std.proofs.Common.{arith}
use Rattle.tidied.proofs.Copying.{break_none}
use Rattle.tidied.proofs.put_break.Goals as goal

pub returns-else-copy-ne0 : goal.returns-else-copy-ne0
returns-else-copy-ne0 c = break_none _ (omega arith)
