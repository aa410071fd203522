-- The file was read and added, or the call ends.
use Rattle.std.proofs.Common.{◌∙◌, ◌≡◌, length, arith}
use Rattle.cli_run.specs.From.{from_of}
use Rattle.cli_run.specs.Items.{unread}
use Rattle.cli_io.specs.Added.{from_name}
use Rattle.cli_io.proofs.Sources.{source_read, source_unread, goes_on, stops}
use Rattle.cli_io.proofs.several.add_source.Goals as goal

pub returns-in-Ok-clause-goes_on : goal.returns-in-Ok-clause-goes_on
returns-in-Ok-clause-goes_on g c = λ f p.
    let w = g.H.Host.world in
    let x = from_of c.args.source in
    let l : length c.read_source.new.front ≡ g.S.Several.kept = omega arith in
    let q = source_read w c.args.host.now c.read_source.new.host x c.read_source.new.front c.in-Ok.total g.S.Several.kept c.input_of.result l c.in-Ok.ensures.read (c.input_of.ensures.name ∙ c.source_name.ensures) c.input_of.ensures.contents in
    goes_on w c.args.host.now c.read_source.new.host x f q.0 q.1 (g.S.Several.answers c.add.new.self) _ (c.add.ensures.goes_on f p q.0 q.2)

pub returns-in-Ok-clause-stops : goal.returns-in-Ok-clause-stops
returns-in-Ok-clause-stops g c = λ f p.
    let w = g.H.Host.world in
    let x = from_of c.args.source in
    let l : length c.read_source.new.front ≡ g.S.Several.kept = omega arith in
    let q = source_read w c.args.host.now c.read_source.new.host x c.read_source.new.front c.in-Ok.total g.S.Several.kept c.input_of.result l c.in-Ok.ensures.read (c.input_of.ensures.name ∙ c.source_name.ensures) c.input_of.ensures.contents in
    stops w c.args.host.now c.read_source.new.host x f q.0 q.1 _ (c.add.ensures.ends f p q.0 q.2)

pub returns-in-Err-clause-stops : goal.returns-in-Err-clause-stops
returns-in-Err-clause-stops g c = λ f p.
    let x = from_of c.args.source in
    let u = source_unread g.H.Host.world c.args.host.now c.read_source.new.host x _ c.in-Err.ensures.unread in
    (record { name = from_name x; found = unread u.0 u.1 }, u.2, λ left. rw (g.met.S.Several.unread_ends c.args.work.now f (from_name x) u.0 u.1 p left) u.3)
