-- `reason_of` looks for the mark from the end on. Assumes nothing.
use Rattle.diagnostic.proofs.Marks.{NoMark}
use Rattle.diagnostic.proofs.reason.reason_of.Given as goal

abbrev pub invariant-loop-i : goal.invariant-loop-i
invariant-loop-i l = NoMark l.shown l.i
