-- `reason_of` looks for the mark from the end on. Assumes nothing.
use Rattle.cli_error.proofs.Marks.{NoMark}
use Rattle.cli_error.proofs.reason.reason_of.Given as goal

abbrev pub invariant-loop-i : goal.invariant-loop-i
invariant-loop-i l = NoMark l.shown l.i
