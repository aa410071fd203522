-- The words, and the number after them.
use Rattle.std.proofs.Common.{rules}
use Rattle.rules.specs.Text.{bytes}
use Rattle.listing.proofs.Adding.{adds_both, adds_all}
use Rattle.station.specs.Station.{wrong_line_text}
use Rattle.station.proofs.Printed.{printed}
use Rattle.station.proofs.write_wrong_line.Goals as goal

pub returns : goal.returns
unfolding wrong_line_text bytes
returns c =
    let h = adds_all c.new-text.ensures (adds_both (adds_both c.push_bytes.ensures c.push_decimal.ensures.text) c.push.ensures) in
    printed _ _ _ _ h.0 (search rules)
