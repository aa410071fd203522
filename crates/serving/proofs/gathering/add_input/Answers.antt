-- Its part is joined to the others.
use Rattle.serving.proofs.Steps.{more_ok}
use Rattle.serving.proofs.gathering.add_input.Goals as goal

pub returns-in-Ok-clause-more : goal.returns-in-Ok-clause-more
returns-in-Ok-clause-more g c = λ a ns p k.
    let q = c.in-Ok.ensures.taken a p in
    more_ok (g.F.Opening.holds c.args.files.now) (λ s b. g.M.MakeNamed.promised c.args.work.now s a b) (λ b. g.M.MakeNamed.accepts c.args.work.now a b) c.args.joining ns _ q.0 _ _ q.1 q.2 q.3 _ _ _ k c.add_part.ensures c.in_memory.ensures.same
