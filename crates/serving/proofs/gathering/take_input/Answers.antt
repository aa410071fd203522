-- The input was read: it has a part, or halts the call.
use Rattle.std.proofs.Common.{ap}
use Rattle.serving.specs.Said.{called}
use Rattle.serving.proofs.Steps.{part_taken, part_halts}
use Rattle.serving.proofs.gathering.take_input.Goals as goal

pub returns-in-Ok-clause-taken : goal.returns-in-Ok-clause-taken
returns-in-Ok-clause-taken g c = λ a p.
    let k = c.in-Ok.ensures.ok in
    part_taken (g.F.Opening.holds c.args.files.now) (λ s b. g.M.MakeNamed.promised c.args.work.now s a b) _ k.text k.held (λ b. g.M.MakeNamed.accepts c.args.work.now a b) _ _ (ap (λ d. d.input) c.with_input-names.ensures) (c.make_part.ensures.made a k.text p k.reads)

pub returns-in-Ok-clause-halts : goal.returns-in-Ok-clause-halts
returns-in-Ok-clause-halts g c = λ a p.
    let k = c.in-Ok.ensures.ok in
    part_halts (g.F.Opening.holds c.args.files.now) (λ s b. g.M.MakeNamed.promised c.args.work.now s a b) _ k.text k.held (called c.args.names) _ _ _ _ _ c.with_input-names.ensures (c.make_part.ensures.stops a k.text p k.reads)
