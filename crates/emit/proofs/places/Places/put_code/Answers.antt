-- `Places::put_code` puts a code's words. Assumes nothing.
use Rattle.std.proofs.Common.{refl}
use Rattle.emit.proofs.Slices.{taken_none}
use Rattle.emit.proofs.places.Places.put_code.Goals as goal

pub returns-in-None : goal.returns-in-None
returns-in-None c = rw c.in-None.is (taken_none _ _ _ refl)
