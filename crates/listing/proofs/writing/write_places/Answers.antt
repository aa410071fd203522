-- A line more is put.
use Rattle.std.proofs.Common.{arith}
use Rattle.listing.proofs.Places.{put_none, put_more}
use Rattle.listing.proofs.writing.write_places.Goals as goal

pub loop-i-init : goal.loop-i-init
loop-i-init c = put_none _ _ _ _ _

pub loop-i-preserved : goal.loop-i-preserved
loop-i-preserved c =
    put_more c.args.at c.loop-i.i _ _ _ _ (omega arith) (omega arith) (omega arith) (omega arith) c.loop-i.invariant c.write_place.ensures
