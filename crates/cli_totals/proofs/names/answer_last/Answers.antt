-- The last script is added, or ends the call.
use Rattle.sheet.specs.Totals.{said}
use Rattle.cli_totals.proofs.Chaining.{last_answered, last_halted}
use Rattle.cli_totals.proofs.names.answer_last.Goals as goal

pub returns-in-Ok : goal.returns-in-Ok
returns-in-Ok g c =
    last_answered g.H.Host.world c.args.json c.args.name.now (said c.args.totals) c.args.host.now c.add_if.new.host c.in-Ok.sum c.answer_totals.result c.in-Ok.ensures
    c.answer_totals.ensures

pub returns-in-Err : goal.returns-in-Err
returns-in-Err g c =
    last_halted g.H.Host.world c.args.json c.args.name.now (said c.args.totals) c.args.host.now c.add_if.new.host c.in-Err.answer c.in-Err.ensures
