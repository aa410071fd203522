-- `push_word` writes the digits, and the sign after them. Assumes nothing.
use Rattle.listing.proofs.Adding.{adds_both}
use Rattle.printout.specs.Printout.{word_text}
use Rattle.printout.proofs.push_word.Goals as goal

pub returns-clause-text : goal.returns-clause-text
unfolding word_text
returns-clause-text c = rw (← c.mark_sign.ensures, ← c.from.ensures) (adds_both c.push_digits.ensures.text c.push.ensures)
