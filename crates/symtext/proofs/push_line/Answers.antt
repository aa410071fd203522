-- The name, the address and the line's number are written. Assumes nothing.
use Rattle.listing.proofs.Adding.{adds_both}
use Rattle.symtext.specs.Symlist.{line_text}
use Rattle.symtext.proofs.push_line.Goals as goal

pub returns : goal.returns
unfolding line_text
returns c =
    rw (← c.from.ensures, ← c.from-2.ensures)
    (adds_both c.push_bytes.ensures (adds_both c.push.ensures (adds_both c.push_digits.ensures.text (adds_both c.push-2.ensures (adds_both c.push_decimal.ensures.text c.push-3.ensures)))))
