-- A line's number, a space and the verdict's line are written. Assumes nothing.
use Rattle.whytext.specs.WhyLine.{row_text}
use Rattle.listing.proofs.Adding.{adds_both}
use Rattle.whytext.proofs.push_row.Goals as goal

pub returns : goal.returns
unfolding row_text
returns c = adds_both c.push_decimal.ensures.text (adds_both c.push.ensures c.push_verdict.ensures)
