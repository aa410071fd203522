-- The table's refusal comes first.
use Rattle.make_lists.proofs.Few.{under_long, under_refused}
use Rattle.make_lists.proofs.call.UnderCall.refuse_long.Goals as goal

pub returns-in-Ok : goal.returns-in-Ok
returns-in-Ok c = λ s e h. under_long c.args.self.now.names.now c.args.self.now.base s c.in-Ok.ensures _ e h

pub returns-in-Err : goal.returns-in-Err
returns-in-Err c = λ s e h. under_refused c.args.self.now.names.now c.args.self.now.base s c.in-Err.ensures
