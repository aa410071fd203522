-- `same_front` compares byte by byte. Assumes nothing.
use Rattle.sheettext.proofs.ReadBack.{Fronted}
use Rattle.sheettext.proofs.back.same_front.Given as goal

abbrev pub invariant-loop-i : goal.invariant-loop-i
invariant-loop-i l = Fronted l.s l.t l.i
