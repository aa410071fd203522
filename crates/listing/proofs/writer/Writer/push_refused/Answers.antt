-- The parts of the line are written one after the other.
use Rattle.rules.specs.Text.{bytes}
use Rattle.listing.specs.Listing.{refused_text}
use Rattle.listing.proofs.Adding.{adds_both}
use Rattle.listing.proofs.writer.Writer.push_refused.Goals as goal

pub returns-clause-text : goal.returns-clause-text
unfolding refused_text bytes
returns-clause-text c =
    rw (← c.from.ensures)
    (adds_both c.push_bytes.ensures (adds_both c.push_decimal.ensures.text (adds_both c.push.ensures (adds_both c.push_decimal-2.ensures.text c.push-2.ensures))))
