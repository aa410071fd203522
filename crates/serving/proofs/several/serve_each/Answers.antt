-- The table was read, and the files are named as the call is told.
use Rattle.std.proofs.Common.{option_map}
use Rattle.serving.specs.Served.{lent}
use Rattle.serving.specs.Gathered.{NoRoom}
use Rattle.serving.proofs.Steps.{served_named}
use Rattle.serving.proofs.several.serve_each.Goals as goal

pub returns-in-Ok : goal.returns-in-Ok
returns-in-Ok g c =
    let old = g.E.Write.contents c.args.errors.now in
    let new = g.E.Write.contents c.serve_inputs.new.errors in
    served_named (g.F.Opening.holds c.args.files.now) (λ a s b. g.M.MakeNamed.promised c.args.work.now s a b) (λ a b. g.M.MakeNamed.accepts c.args.work.now a b) (lent (g.F.Opening.holds c.args.files.now) (option_map (λ s. s.now) c.args.branches)) c.args.joining _ _
    (λ s r. g.O.Output.puts c.args.out.now c.serve_inputs.new.out s r) _ (NoRoom old new) old new _ _ _ c.names_of-names.ensures (c.serve_inputs.ensures _ c.in-Ok.ensures.ok)
