-- `after_blanks` steps over the line's leading blanks. Assumes nothing.
use Rattle.outline.proofs.Looking.{Begun}
use Rattle.outline.proofs.after_blanks.Given as goal

abbrev pub invariant-loop-i : goal.invariant-loop-i
invariant-loop-i l = Begun l.source l.at l.i
