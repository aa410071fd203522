-- All inputs are gathered, or one halts the call.
use Rattle.std.proofs.Common.{ap}
use Rattle.serving.specs.Said.{called}
use Rattle.serving.proofs.Steps.{ended, halted_from}
use Rattle.serving.proofs.gathering.gather.Goals as goal

pub returns-in-Ok-add_inputs-clause-gathered : goal.returns-in-Ok-add_inputs-clause-gathered
returns-in-Ok-add_inputs-clause-gathered g c = λ a p.
    ended (g.F.Opening.holds c.args.files.now) (λ s b. g.M.MakeNamed.promised c.args.work.now s a b) (λ b. g.M.MakeNamed.accepts c.args.work.now a b) c.args.joining _ _ _ _ (c.in-Ok-add_inputs.ensures.gathered a p) c.end.ensures c.in_memory-in-Ok-add_inputs.ensures.same

pub returns-in-Err-add_inputs-clause-halts : goal.returns-in-Err-add_inputs-clause-halts
returns-in-Err-add_inputs-clause-halts g c = λ a p.
    halted_from (called c.args.names) (called c.args.names) _ _ _ (ap g.E.Write.contents c.in-Ok.ensures.quiet) (g.F.Opening.holds c.args.files.now) (λ s b. g.M.MakeNamed.promised c.args.work.now s a b) _ _ _ (c.in-Err-add_inputs.ensures.halts a p)
