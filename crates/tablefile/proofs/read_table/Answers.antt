-- Where no table is lent nothing is read.
use Rattle.std.proofs.Common.{refl}
use Rattle.file.proofs.Steps.{nothing_read}
use Rattle.tablefile.proofs.read_table.Goals as goal

pub returns-in-None : goal.returns-in-None
returns-in-None g c = record { part = nothing_read _ _ refl; over = refl }
