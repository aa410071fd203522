-- A source over the limit is refused. Assumes nothing.
use Rattle.std.proofs.Common.{refl}
use Rattle.neartext.proofs.Told.{nearest_long}
use Rattle.neartext.proofs.put_near.Goals as goal

pub returns-then-length-gt-MAX_SOURCE : goal.returns-then-length-gt-MAX_SOURCE
returns-then-length-gt-MAX_SOURCE c = (nearest_long _ _ _ c.if-length-gt-MAX_SOURCE.true, refl)
