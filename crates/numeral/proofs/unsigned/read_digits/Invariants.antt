-- `read_digits` meets its contract: what is left to read, after the value so far, reads as the whole. Assumes nothing.
use Rattle.numeral.proofs.Reading.{Midway}
use Rattle.numeral.proofs.unsigned.read_digits.Given as goal

abbrev pub invariant-loop-i : goal.invariant-loop-i
invariant-loop-i l = Midway l.radix l.bound l.t l.v l.i
