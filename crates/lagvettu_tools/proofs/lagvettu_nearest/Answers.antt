-- `lagvettu_nearest` meets its contract: it passes on the numbers of the label, or the refusal's. Assumes nothing.
use Rattle.lagvettu_tools.specs.Called.{of_label, of_refusal}
use Rattle.lagvettu_tools.proofs.lagvettu_nearest.Goals as goal

pub returns-in-Ok : goal.returns-in-Ok
returns-in-Ok c = rw (← c.in-Ok.ensures) (of_label _)

pub returns-in-Err : goal.returns-in-Err
returns-in-Err c = rw (← c.in-Err.ensures, c.number.ensures, c.place.ensures) (of_refusal _ _)
