-- `decimal_places` meets its contract: each division takes one place off. Assumes nothing.
use native.Mathlib.Omega.{arith}
use Rattle.listing.proofs.Digits.{dividing_start, dividing_more, dividing_end}
use Rattle.listing.proofs.writing.decimal_places.Goals as goal

pub loop-rest-init : goal.loop-rest-init
loop-rest-init c = dividing_start _ (omega arith)

pub loop-rest-preserved : goal.loop-rest-preserved
loop-rest-preserved c = dividing_more c.loop-rest.invariant c.loop-rest-test.true

pub returns : goal.returns
returns c = dividing_end c.loop-rest.invariant c.loop-rest-test.false
