-- The room that was made does not show.
use Rattle.std.proofs.Common.{sym, ◌∙◌}
use Rattle.make_lists.proofs.Places.{enough, had_room, not_short}
use Rattle.make_lists.proofs.listed.list_script.Goals as goal

pub returns-in-Ok-clause-answers : goal.returns-in-Ok-clause-answers
returns-in-Ok-clause-answers g c = had_room _ _ _ c.in-Ok.ensures.answers

pub returns-then-is_short-clause-answers : goal.returns-then-is_short-clause-answers
returns-then-is_short-clause-answers g c = enough _ c.requires _ c.list_within-then-is_short.ensures.answers

pub returns-else-is_short-clause-answers : goal.returns-else-is_short-clause-answers
returns-else-is_short-clause-answers g c = not_short c.first_room.result _ c.in-Err.e c.in-Err.ensures.answers (sym c.is_short.ensures ∙ c.if-is_short.false)
