-- The name, a space, the distance and byte 10 are written. Assumes nothing.
use Rattle.listing.proofs.Adding.{adds_both}
use Rattle.neartext.specs.NearLabel.{label_text}
use Rattle.neartext.proofs.push_label.Goals as goal

pub returns : goal.returns
unfolding label_text
returns c = rw (← c.from.ensures) (adds_both c.push_bytes.ensures (adds_both c.push.ensures (adds_both c.push_decimal.ensures.text c.push-2.ensures)))
