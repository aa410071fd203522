-- The four parts are written. Assumes nothing.
use Rattle.std.proofs.Common.{rules}
use Rattle.listing.proofs.Adding.{adds_both, adds_all}
use Rattle.station.proofs.Printed.{printed}
use Rattle.sheettext.specs.Rows.{sheet_text}
use Rattle.sheettext.proofs.rows.write_sheet.Goals as goal

pub returns : goal.returns
unfolding sheet_text
returns c =
    let h = adds_all c.new-text.ensures (adds_both (adds_both (adds_both c.push_plain.ensures.text c.push_code.ensures.text) c.push_counts.ensures.text) c.push_mean.ensures) in
    printed _ _ _ _ h.0 (search rules)
