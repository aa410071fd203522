-- The file was read, or was not.
use Rattle.std.proofs.Common.{◌∙◌, ◌≡◌, length, refl, arith}
use Rattle.cli_error.specs.Fault.{failed}
use Rattle.cli_error.specs.Answered.{answer_of, failure_of}
use Rattle.cli_run.specs.Items.{item, unread}
use Rattle.cli_io.specs.World.{name_of, input_name}
use Rattle.cli_io.proofs.Steps.{input_read}
use Rattle.cli_io.proofs.one.answer_with.Goals as goal

pub returns-in-Ok : goal.returns-in-Ok
returns-in-Ok g c = λ t p.
    let l : length c.read_file.new.front ≡ g.M.One.kept = omega arith in
    let q = input_read g.H.Host.world c.args.host.now c.read_file.new.host (name_of c.args.file) c.read_file.new.front c.in-Ok.total g.M.One.kept c.input_of-input.result l c.in-Ok.ensures.read (c.input_of-input.ensures.name ∙ c.input_name.ensures) c.input_of-input.ensures.contents in
    (answer_of (g.M.One.made c.args.work.now t q.0), (item q.0, q.1, refl), c.of.ensures _ (c.make.ensures t q.0 p q.2))

pub returns-in-Err : goal.returns-in-Err
returns-in-Err g c = λ t p.
    let u = c.in-Err.ensures.unread in
    let n = input_name (name_of c.args.file) in
    (failure_of (failed u.0 n u.1), (record { name = n; found = unread u.0 u.1 }, (refl, u.2), refl), u.3)
