-- `text_start` steps over spaces, and leaves other blanks to `after_blanks`. Assumes nothing.
use Rattle.outline.proofs.Looking.{Begun}
use Rattle.outline.proofs.text_start.Given as goal

abbrev pub invariant-loop-i : goal.invariant-loop-i
invariant-loop-i l = Begun l.source l.at l.i
