-- `decimal_places` meets its contract: each division takes one place off. Assumes nothing.
use Rattle.listing.proofs.Digits.{Dividing}
use Rattle.listing.proofs.writing.decimal_places.Given as goal

abbrev pub invariant-loop-rest : goal.invariant-loop-rest
invariant-loop-rest l = Dividing l.n l.count l.rest

abbrev pub decreases-loop-rest : goal.decreases-loop-rest
decreases-loop-rest l = l.rest
