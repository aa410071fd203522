-- `write_explained` writes the verdict's line, or the refusal's. Assumes nothing.
use Rattle.std.proofs.Common.{rules}
use Rattle.listing.proofs.Adding.{adds_all}
use Rattle.station.proofs.Printed.{printed}
use Rattle.whytext.proofs.write_explained.Goals as goal

pub returns-in-Ok : goal.returns-in-Ok
returns-in-Ok g c =
    let h = adds_all c.new-text.ensures c.push_verdict.ensures in
    rw c.in-Ok.is (printed _ _ _ _ h.0 (search rules))

pub returns-in-Err : goal.returns-in-Err
returns-in-Err g c =
    rw (c.in-Err.is, ← c.number.ensures, ← c.place.ensures) (printed _ _ _ _ c.write_refused.ensures.0 c.write_refused.ensures.2)
