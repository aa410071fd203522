use Rattle.wholefile.specs.Put.{removed, left}
use Rattle.wholefile.proofs.Steps.{then_removed, unchanged}
use Rattle.wholefile.proofs.placing.undo.Goals as goal

pub returns-in-Ok : goal.returns-in-Ok
returns-in-Ok g c = λ old h e. removed h (then_removed _ h old _ _ e c.in-Ok.ensures.removed)

pub returns-in-Err : goal.returns-in-Err
returns-in-Err g c = λ old h e. left h (unchanged _ h old _ _ e c.in-Err.ensures.same) c.in-Err.ensures.stays
