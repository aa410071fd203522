-- The name is written, and the words after it.
use Rattle.std.proofs.Common.{rules}
use Rattle.listing.proofs.Adding.{adds_as, adds_both, adds_all}
use Rattle.station.proofs.Kept.{take_lesser}
use Rattle.station.proofs.Printed.{printed}
use Rattle.station.proofs.failure.write_said.Goals as goal

pub returns : goal.returns
returns c =
    let h = adds_all c.new-text.ensures (adds_both (adds_as c.push_bytes.ensures (take_lesser _ 32 _ c.min.ensures)) c.push_bytes-2.ensures) in
    printed _ _ _ _ h.0 (search rules)
