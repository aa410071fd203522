-- `write_digits` meets its contract: the digits that are left are those of what is left of the number. Assumes nothing.
use native.Mathlib.Omega.{arith}
use Rattle.listing.proofs.Digits.{spelling_more, spelling_end}
use Rattle.listing.proofs.writing.write_digits.Goals as goal

pub loop-i-preserved : goal.loop-i-preserved
loop-i-preserved c = spelling_more c.loop-i.invariant _ (omega arith) (omega arith) c.digit_byte.ensures

pub returns : goal.returns
returns c = spelling_end c.loop-i.invariant (omega arith)
