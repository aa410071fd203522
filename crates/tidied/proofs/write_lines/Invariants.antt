-- `write_lines` goes from line to line until the END line or the source's end. Assumes nothing.
use Prim.Native.Nat.{◌-◌}
use lib.ListN.{length}
use Rattle.tidied.proofs.Copying.{Copying}
use Rattle.tidied.proofs.write_lines.Given as goal

abbrev pub invariant-loop-at : goal.invariant-loop-at
invariant-loop-at l = Copying l.source l.initial.copy l.at l.copy

abbrev pub decreases-loop-at : goal.decreases-loop-at
decreases-loop-at l = length l.source - l.at
