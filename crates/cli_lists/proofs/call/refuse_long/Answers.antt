-- The table's refusal comes first.
use Rattle.cli_lists.proofs.Few.{plain_long, manual_long, under_long, under_refused}
use Rattle.cli_lists.proofs.call.refuse_long.Goals as goal

pub returns-in-Plain : goal.returns-in-Plain
returns-in-Plain c = λ s e h. rw c.in-Plain.is (plain_long _ _ s e h)

pub returns-in-Manual : goal.returns-in-Manual
returns-in-Manual c = λ s e h. rw c.in-Manual.is (manual_long _ _ s e h)

pub returns-in-Ok : goal.returns-in-Ok
returns-in-Ok c = λ s e h. rw c.in-Under.is (under_long c.in-Under.names.now _ s c.in-Ok.ensures _ e h)

pub returns-in-Err : goal.returns-in-Err
returns-in-Err c = λ s e h. rw c.in-Under.is (under_refused c.in-Under.names.now _ s c.in-Err.ensures)
