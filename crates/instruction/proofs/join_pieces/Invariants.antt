-- `join_pieces` adds one piece after the other. Assumes nothing.
use Prim.Native.Nat.{◌-◌}
use lib.ListN.{length}
use Rattle.instruction.proofs.Tail.{Joining}
use Rattle.instruction.proofs.join_pieces.Given as goal

abbrev pub invariant-loop-at : goal.invariant-loop-at
invariant-loop-at l = Joining l.t l.at l.initial.out l.i l.n l.out

abbrev pub decreases-loop-at : goal.decreases-loop-at
decreases-loop-at l = length l.t - l.i
