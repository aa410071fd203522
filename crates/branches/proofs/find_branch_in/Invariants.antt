-- `find_branch_in`: row by row, to the first that has the name. Assumes nothing.
use Rattle.rules.specs.Text.{uppers}
use Rattle.branches.proofs.Laws.{Looking}
use Rattle.branches.proofs.find_branch_in.Given as goal

abbrev pub invariant-loop-k : goal.invariant-loop-k
invariant-loop-k l = Looking l.bytes (uppers l.mnemonic) l.k
