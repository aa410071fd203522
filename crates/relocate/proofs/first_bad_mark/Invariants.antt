use Rattle.std.proofs.Common.{◌∷◌, get_or}
use Rattle.relocate.proofs.Scan.{Scanned}
use Rattle.relocate.proofs.first_bad_mark.Given as goal

abbrev pub invariant-loop-i : goal.invariant-loop-i
invariant-loop-i l = Scanned l.marks (get_or (0 ∷ l.marks) l.i 0) l.i
