-- There is no part, and that is told.
use Rattle.serving.proofs.Steps.{told_stops}
use Rattle.serving.proofs.gathering.make_part.Goals as goal

pub returns-in-Err-clause-stops : goal.returns-in-Err-clause-stops
returns-in-Err-clause-stops g c = λ a b p q. told_stops _ _ _ _ _ _ _ _ (c.stops.ensures _ (c.in-Err.ensures a b p q)) c.told.ensures.answer (c.kept_of.ensures b q) c.told.ensures.told
