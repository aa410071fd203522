-- A word, and the number after it.
use Rattle.std.proofs.Common.{rules}
use Rattle.rules.specs.Text.{bytes}
use Rattle.listing.proofs.Adding.{adds_both, adds_all}
use Rattle.station.proofs.Printed.{printed}
use Rattle.calls.specs.Calls.{read_text}
use Rattle.calls.proofs.write_value.Goals as goal

pub returns : goal.returns
unfolding read_text bytes
returns c =
    let h = adds_all c.new-text.ensures (adds_both c.push_bytes.ensures (rw c.from.ensures at c.push_number.ensures.text)) in
    printed _ _ _ _ h.0 (search rules)
