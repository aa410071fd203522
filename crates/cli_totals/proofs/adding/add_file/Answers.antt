-- The file was read and added, or the call ends with it.
use Rattle.std.proofs.Common.{refl, length, ◌≡◌, Some, inl, arith}
use Rattle.cli_error.specs.Fault.{failed}
use Rattle.cli_error.specs.Answered.{fails}
use Rattle.cli_run.specs.Items.{item, unread}
use Rattle.cli_io.proofs.Steps.{input_read}
use Rattle.cli_totals.proofs.adding.add_file.Goals as goal

pub returns-in-Ok-with_file : goal.returns-in-Ok-with_file
returns-in-Ok-with_file g c =
    let l : length c.read_file.new.front ≡ 32769 = omega arith in
    let q = input_read g.H.Host.world c.args.host.now c.read_file.new.host (Some c.args.name.now) c.read_file.new.front c.in-Ok.total 32769 c.input_of.result l c.in-Ok.ensures.read c.input_of.ensures.name c.input_of.ensures.contents in
    (item q.0, inl q.1, c.in-Ok-with_file.ensures q.0 q.2)

pub returns-in-Err-with_file : goal.returns-in-Err-with_file
returns-in-Err-with_file g c =
    let l : length c.read_file.new.front ≡ 32769 = omega arith in
    let q = input_read g.H.Host.world c.args.host.now c.read_file.new.host (Some c.args.name.now) c.read_file.new.front c.in-Ok.total 32769 c.input_of.result l c.in-Ok.ensures.read c.input_of.ensures.name c.input_of.ensures.contents in
    let e = c.in-Err-with_file.ensures q.0 q.2 in
    (item q.0, inl q.1, (e.0, e.1, c.failed.ensures (fails e.0) e.2))

pub returns-in-Err : goal.returns-in-Err
returns-in-Err g c =
    let u = c.in-Err.ensures.unread in
    (record { name = c.args.name.now; found = unread u.0 u.1 }, inl (refl, u.2), (failed u.0 c.args.name.now u.1, refl, u.3))
