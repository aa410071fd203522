-- `kept_length` leaves out blanks from the end on. Assumes nothing.
use Rattle.text.proofs.Kept.{TrimsTo}
use Rattle.text.proofs.kept_length.Given as goal

abbrev pub invariant-loop-i : goal.invariant-loop-i
invariant-loop-i l = TrimsTo l.t l.i
