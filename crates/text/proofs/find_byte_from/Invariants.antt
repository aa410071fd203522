-- `find_byte_from` looks at one byte after the other. Assumes nothing.
use Rattle.text.proofs.Find.{Looked}
use Rattle.text.proofs.find_byte_from.Given as goal

abbrev pub invariant-loop-i : goal.invariant-loop-i
invariant-loop-i l = Looked l.t l.at l.b l.i
