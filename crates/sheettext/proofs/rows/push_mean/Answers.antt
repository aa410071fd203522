-- Both numbers of the mean are written. Assumes nothing.
use Rattle.rules.specs.Text.{bytes}
use Rattle.requests.specs.Sheet.{mean_of}
use Rattle.listing.proofs.Adding.{adds_both}
use Rattle.sheettext.specs.Rows.{mean_text}
use Rattle.sheettext.proofs.rows.push_mean.Goals as goal

pub returns : goal.returns
unfolding mean_text mean_of bytes
returns c = adds_both c.push_part.ensures.text c.push_part-2.ensures.text
