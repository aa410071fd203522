use Rattle.std.proofs.Common.{true, refl}
use Rattle.wholefile.specs.Put.{given_back}
use Rattle.wholefile.specs.Shelf.{with_rights}
use Rattle.wholefile.proofs.Steps.{as_before, ends_then}
use Rattle.wholefile.proofs.placing.own.Goals as goal

pub returns-in-None : goal.returns-in-None
returns-in-None g c = rw c.in-None.is (true, as_before _ _ _ refl)

pub returns-in-Ok : goal.returns-in-Ok
returns-in-Ok g c = let k = c.in-Ok.ensures in
    rw c.in-Some.is (ends_then _ (given_back c.in-Some.old) (with_rights c.in-Some.old.rights) _ _ _ c.permit.result k.0 k.1 c.permit.ensures)
