-- `Places::put` stores one word. Assumes nothing.
use Rattle.std.proofs.Common.{refl}
use Rattle.emit.specs.Places.{put_from}
use Rattle.emit.proofs.places.Places.put.Goals as goal

pub returns : goal.returns
unfolding put_from
returns c = record { same = record { addresses = refl; words = refl; marks = refl }; put = refl }
