-- The three numbers, or a refusal.
use Rattle.calls.specs.Calls.{answered_text}
use Rattle.calls.proofs.nearest_text.Goals as goal

pub returns-in-Ok : goal.returns-in-Ok
unfolding answered_text
returns-in-Ok c = rw (← c.in-Ok.ensures) c.write_nearest.ensures

pub returns-in-Err : goal.returns-in-Err
unfolding answered_text
returns-in-Err c = rw (← c.in-Err.ensures) c.write_refusal.ensures
