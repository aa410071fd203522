-- `write_decimal` meets its contract: there are as many digits as places. Assumes nothing.
use native.Mathlib.Omega.{arith}
use Rattle.listing.proofs.Digits.{decimal_length, decimal_put}
use Rattle.listing.proofs.writing.write_decimal.Goals as goal

pub returns : goal.returns
returns c =
    let count = c.decimal_places-count.ensures.0 in
    (omega (arith, decimal_length _ _ count), omega arith, decimal_put _ _ _ _ _ count c.write_digits.ensures)
