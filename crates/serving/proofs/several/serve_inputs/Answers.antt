-- The text of all is put, or one input halts the call.
use Rattle.std.proofs.Common.{refl, ap, inl, inr}
use Rattle.serving.specs.Said.{called, with_input, Tells}
use Rattle.serving.specs.Gathered.{NoRoom}
use Rattle.serving.proofs.Steps.{said_from, served_all}
use Rattle.serving.proofs.several.serve_inputs.Goals as goal

pub returns-in-Ok : goal.returns-in-Ok
returns-in-Ok g c = λ t k.
    let q = c.in-Ok.ensures.gathered k.text k.reads in
    let old = g.E.Write.contents c.args.errors.now in
    let new = g.E.Write.contents c.told.new.errors in
    served_all (g.F.Opening.holds c.args.files.now) (λ a s b. g.M.MakeNamed.promised c.args.work.now s a b) (λ a b. g.M.MakeNamed.accepts c.args.work.now a b) t c.args.joining _ _
    (λ s r. g.O.Output.puts c.args.out.now c.put_all-outcome.new.out s r) _ (λ n s o. Tells (with_input (called c.args.names) n) s o old new) (NoRoom old new) k.text k.held
    q.0 _ _ _ _ q.1 q.2 q.3 c.told.ensures.answer c.put_all-outcome.ensures
    (said_from _ _ _ _ _ (ap g.E.Write.contents c.in-Ok.ensures.quiet) _ _ c.with_input.ensures c.told.ensures.told)

pub returns-in-Err : goal.returns-in-Err
returns-in-Err g c = λ t k. inr (k.text, k.held, inl (refl, c.in-Err.ensures.halts k.text k.reads))
