-- The line of what the checks refused.
use Rattle.station.proofs.Printed.{printed_none}
use Rattle.tidytext.proofs.Told.{refusal_none, refusal_told}
use Rattle.tidytext.proofs.write_checked.Goals as goal

pub returns-in-Ok : goal.returns-in-Ok
returns-in-Ok c = rw (refusal_none _ c.in-Ok.ensures.clear) (printed_none _)

pub returns-in-Err : goal.returns-in-Err
returns-in-Err c = rw (← (refusal_told _ _ _ _ c.in-Err.ensures.answer)) c.write_refusal.ensures
