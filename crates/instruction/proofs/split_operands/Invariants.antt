-- `split_operands` takes one part after the other. Assumes nothing.
use Prim.Native.Nat.{◌-◌}
use lib.ListN.{length}
use Rattle.instruction.proofs.Split.{Splitting}
use Rattle.instruction.proofs.split_operands.Given as goal

abbrev pub invariant-loop-found : goal.invariant-loop-found
invariant-loop-found l = Splitting l.t l.found l.at

abbrev pub decreases-loop-found : goal.decreases-loop-found
decreases-loop-found l = length l.t - l.at
