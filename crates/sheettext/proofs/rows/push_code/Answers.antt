-- Row after row is written. Assumes nothing.
use Rattle.rules.specs.Text.{bytes}
use Rattle.listing.proofs.Adding.{adds_both}
use Rattle.sheettext.specs.Rows.{code_text}
use Rattle.sheettext.proofs.rows.push_code.Goals as goal

pub returns-clause-text : goal.returns-clause-text
unfolding code_text bytes
returns-clause-text c = adds_both (adds_both c.push_part.ensures.text c.push_part-2.ensures.text) c.push_part-3.ensures.text
