-- The input is named.
use Rattle.std.proofs.Common.{refl}
use Rattle.cli_error.specs.Answered.{fails}
use Rattle.cli_io.specs.World.{name_of}
use Rattle.cli_totals.specs.Sheeted.{no_end}
use Rattle.cli_totals.proofs.names.answer_no_end.Goals as goal

pub returns : goal.returns
returns c = c.failed.ensures (fails (no_end (name_of c.args.file))) (rw c.input_name.ensures refl)
