-- `write_digits` meets its contract: the digits that are left are those of what is left of the number. Assumes nothing.
use Rattle.listing.proofs.Digits.{Spelling}
use Rattle.listing.proofs.writing.write_digits.Given as goal

abbrev pub invariant-loop-i : goal.invariant-loop-i
invariant-loop-i l = Spelling l.at l.base l.count l.n l.initial.out l.i l.rest l.out
