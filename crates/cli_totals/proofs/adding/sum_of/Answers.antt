-- A refusal is of the file.
use Rattle.std.proofs.Common.{refl}
use Rattle.answer.specs.Refusal.{number_of, place_of}
use Rattle.cli_error.specs.Fault as Why
use Rattle.std.specs.Prelude.{[]}
use Rattle.cli_totals.specs.Series.{sum_of}
use Rattle.cli_totals.proofs.adding.sum_of.Goals as goal

pub returns-in-Ok : goal.returns-in-Ok
unfolding sum_of
returns-in-Ok c = rw c.in-Ok.is refl

pub returns-in-Err : goal.returns-in-Err
unfolding sum_of
returns-in-Err c = rw c.in-Err.is (Why.refused c.args.name.now (number_of c.in-Err.refusal) (place_of c.in-Err.refusal) [], refl, refl)
