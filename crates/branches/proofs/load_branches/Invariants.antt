-- `load_branches`: command by command, to the end or the first fault. Assumes nothing.
use Rattle.branches.proofs.Laws.{Checking}
use Rattle.branches.proofs.load_branches.Given as goal

abbrev pub invariant-loop-k : goal.invariant-loop-k
invariant-loop-k l = Checking l.bytes l.k
