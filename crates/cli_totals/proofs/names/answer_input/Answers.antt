-- The input was opened, or was not.
use Rattle.sheet.specs.Totals.{said}
use Rattle.cli_io.specs.World.{name_of}
use Rattle.cli_totals.proofs.Chaining.{input_unopened, input_named}
use Rattle.cli_totals.proofs.names.answer_input.Goals as goal

pub returns-in-Ok : goal.returns-in-Ok
returns-in-Ok g c =
    input_named g.H.Host.world c.args.args.now.json (name_of c.args.args.now.file) (said c.args.totals) c.args.host.now c.open_input.new.host c.answer_names.new.host
    c.answer_names.result c.in-Ok.ensures.opened c.answer_names.ensures

pub returns-in-Err : goal.returns-in-Err
returns-in-Err g c =
    input_unopened g.H.Host.world c.args.args.now.json (name_of c.args.args.now.file) (said c.args.totals) c.args.host.now c.open_input.new.host c.in-Err.answer
    c.in-Err.ensures.unread
