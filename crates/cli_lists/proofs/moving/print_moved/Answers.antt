-- The text of the list that was moved, or the mover's refusal.
use mir.Facts.{to_z-of_z}
use Rattle.cli_lists.proofs.moving.print_moved.Goals as goal

pub returns-in-Ok : goal.returns-in-Ok
returns-in-Ok c = λ l f b i. rw (rw (to_z-of_z c.ranges.distance) at (c.in-Ok.ensures.answers l f)) c.list_output.ensures

pub returns-in-Err : goal.returns-in-Err
returns-in-Err c = λ l f b i. rw (rw (to_z-of_z c.ranges.distance) at (c.in-Err.ensures.answers l f)) (c.input_failure.ensures 196609 b i)
