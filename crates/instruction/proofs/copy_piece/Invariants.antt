-- `copy_piece` meets its contract: the bytes that are left are still to be put. Assumes nothing.
use Rattle.std.specs.Prelude.{◌+◌, drop}
use Rattle.text.proofs.Over.{Putting}
use Rattle.instruction.proofs.copy_piece.Given as goal

abbrev pub invariant-loop-i : goal.invariant-loop-i
invariant-loop-i l = Putting l.n l.p l.initial.out (l.n + l.i) (drop l.i l.p) l.out
