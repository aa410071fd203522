-- `benchtext::push_long` meets its contract. Assumes nothing.
use Rattle.listing.proofs.Adding.{adds_both}
use Rattle.benchtext.specs.BenchText.{long_text}
use Rattle.benchtext.proofs.push_long.Goals as goal

pub returns-clause-text : goal.returns-clause-text
unfolding long_text
returns-clause-text c = rw (← c.from.ensures) (adds_both c.push.ensures c.push_digits.ensures.text)
