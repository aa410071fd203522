-- As many places are filled as lines are counted.
use Rattle.std.proofs.Common.{arith, sym}
use Rattle.listing.proofs.RoundTrip.{read_length, read_within}
use Rattle.listing.proofs.reading.read_list.Goals as goal

pub fill-requires : goal.fill-requires
fill-requires c = omega (arith, read_length _ _ _ (sym c.in_ok-count.ensures), read_within _ _ _ (sym c.in_ok-count.ensures))
