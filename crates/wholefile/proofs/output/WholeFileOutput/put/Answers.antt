use Rattle.std.proofs.Common.{inr}
use Rattle.wholefile.proofs.output.WholeFileOutput.put.Goals as goal

pub returns-in-Err : goal.returns-in-Err
returns-in-Err g c = inr c.in-Err.ensures
