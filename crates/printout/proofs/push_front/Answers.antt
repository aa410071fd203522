-- `push_front` writes the number, the address and the words, with spaces between them. Assumes nothing.
use native.Mathlib.Omega.{arith}
use Rattle.listing.proofs.Adding.{adds_both}
use Rattle.rules.specs.Text.{bytes}
use Rattle.printout.specs.Printout.{front_text}
use Rattle.printout.proofs.push_front.Goals as goal

pub push-requires : goal.push-requires
push-requires c = omega (arith, c.push_code.ensures.text 0)

pub returns-clause-text : goal.returns-clause-text
unfolding front_text bytes
returns-clause-text c =
    let address = adds_both (adds_both c.push_number.ensures.text c.push_bytes.ensures) (rw c.from.ensures at c.push_digits.ensures.text) in
    adds_both (adds_both (adds_both address c.push_bytes-2.ensures) (c.push_code.ensures.text _)) c.push.ensures
