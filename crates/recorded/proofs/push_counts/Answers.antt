-- The parts one after another.
use Rattle.rules.specs.Text.{bytes}
use Rattle.listing.proofs.Adding.{adds_both}
use Rattle.recorded.specs.Replay.{counts_text}
use Rattle.recorded.proofs.push_counts.Goals as goal

pub returns-clause-text : goal.returns-clause-text
unfolding counts_text bytes
returns-clause-text c =
    adds_both c.push_decimal.ensures.text (adds_both c.push_bytes.ensures (adds_both c.push_decimal-2.ensures.text (adds_both c.push_bytes-2.ensures (adds_both c.push_decimal-3.ensures.text c.push_bytes-3.ensures))))
