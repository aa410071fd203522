-- The three numbers one after another.
use Rattle.std.proofs.Common.{rules}
use Rattle.listing.proofs.Adding.{adds_both, adds_all}
use Rattle.station.proofs.Printed.{printed}
use Rattle.calls.specs.Calls.{nearest_text}
use Rattle.calls.proofs.write_nearest.Goals as goal

pub returns : goal.returns
unfolding nearest_text
returns c =
    let h = adds_all c.new-text.ensures (adds_both (adds_both c.push_number.ensures.text c.push_number-2.ensures.text) (rw c.from.ensures at c.push_number-3.ensures.text)) in
    printed _ _ _ _ h.0 (search rules)
