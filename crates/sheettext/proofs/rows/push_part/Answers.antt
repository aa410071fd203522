-- Words, a number and a byte are written. Assumes nothing.
use Rattle.listing.proofs.Adding.{adds_both}
use Rattle.sheettext.specs.Rows.{part_text}
use Rattle.sheettext.proofs.rows.push_part.Goals as goal

pub returns-clause-text : goal.returns-clause-text
unfolding part_text
returns-clause-text c = adds_both c.push_bytes.ensures (adds_both c.push_decimal.ensures.text c.push.ensures)
