-- The digits, and the byte after them.
use Rattle.listing.proofs.Adding.{adds_both}
use Rattle.calls.specs.Calls.{number_text}
use Rattle.calls.proofs.push_number.Goals as goal

pub returns-clause-text : goal.returns-clause-text
unfolding number_text
returns-clause-text c = adds_both c.push_decimal.ensures.text c.push.ensures
