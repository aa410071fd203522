-- There are as many digits as places.
use Rattle.listing.specs.Listing.{decimal}
use Rattle.listing.proofs.writer.Writer.push_decimal.Goals as goal

pub returns-clause-text : goal.returns-clause-text
unfolding decimal
returns-clause-text c = rw c.decimal_places.ensures.0 at c.push_digits.ensures.text
