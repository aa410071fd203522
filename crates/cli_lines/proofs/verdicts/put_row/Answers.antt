-- The number, a space and the line are written. Assumes nothing.
use Rattle.std.proofs.Common.{rules}
use Rattle.listing.proofs.Adding.{adds_all, adds_both}
use Rattle.station.proofs.Printed.{printed}
use Rattle.whytext.specs.WhyLine.{row_text}
use Rattle.cli_lines.proofs.verdicts.put_row.Goals as goal

pub returns : goal.returns
unfolding row_text
returns c =
    let h = adds_all c.new-text.ensures (adds_both c.push_decimal.ensures.text (adds_both c.push.ensures c.push_verdict.ensures)) in
    printed _ _ _ _ h.0 (search rules)
