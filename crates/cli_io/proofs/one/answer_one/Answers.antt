-- The table was read, or was not; or there is no memory for the front of the file.
use Rattle.std.proofs.Common.{inl, inr, refl, option_map}
use Rattle.cli_error.specs.Answered.{out_of_memory}
use Rattle.cli_run.specs.Items.{item}
use Rattle.cli_io.specs.World.{name_of}
use Rattle.cli_io.specs.Answers.{AnswersFile}
use Rattle.cli_io.proofs.Steps.{table_read, on_table, table_unread}
use Rattle.cli_io.proofs.one.answer_one.Goals as goal

pub returns-in-Ok-read_table : goal.returns-in-Ok-read_table
returns-in-Ok-read_table g c =
    let w = g.H.Host.world in
    let old = c.args.host.now in
    let mid = c.read_table.new.host in
    let new = c.answer_with.new.host in
    let q = table_read w old mid (name_of c.args.branches) _ c.in-Ok-read_table.total _ c.in-Ok-read_table.ensures.read c.table_of-table.ensures in
    let m = c.answer_with.ensures q.0 q.2 in
    (m.0, inl (option_map item q.0, mid, q.1, on_table w old new mid m.0 (λ t. AnswersFile w (name_of c.args.file) (g.M.One.made c.args.work.now t) mid new m.0) q.0 m.1), m.2)

pub returns-in-Ok : goal.returns-in-Ok
returns-in-Ok g c =
    let w = g.H.Host.world in
    let new = c.read_table.new.host in
    let m = table_unread w c.args.host.now new (name_of c.args.branches) _ c.in-Err-read_table.ensures.unread (λ mid a t. AnswersFile w (name_of c.args.file) (g.M.One.made c.args.work.now t) mid new a) in
    (m.0, inl m.1, m.2)

pub returns : goal.returns
returns g c = (out_of_memory, inr (refl, refl), tt)
