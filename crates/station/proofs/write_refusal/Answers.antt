-- A refusal's line is its number's and place's.
use Rattle.station.proofs.Printed.{printed}
use Rattle.station.proofs.write_refusal.Goals as goal

pub returns : goal.returns
returns c = rw (← c.number.ensures, ← c.place.ensures) (printed _ _ _ _ c.write_refused.ensures.0 c.write_refused.ensures.2)
