-- `outline_line` looks once at each byte of the line. Assumes nothing.
use Rattle.outline.proofs.Looking.{Looked}
use Rattle.outline.proofs.outline_line.Given as goal

abbrev pub invariant-loop-i : goal.invariant-loop-i
invariant-loop-i l = Looked l.source l.at l.start l.i l.colon l.defines
