-- `push_rows` has before each kept line the rows of the lines before it written. Assumes nothing.
use Rattle.std.specs.Option.{option_copied}
use Rattle.branches.specs.Branch.{names_in}
use Rattle.printout.proofs.Keeping.{Keeping}
use Rattle.printout.proofs.push_rows.Given as goal

abbrev pub invariant-loop-k : goal.invariant-loop-k
invariant-loop-k l = Keeping (names_in (option_copied l.names)) l.labels l.cells l.pass l.initial.text l.address l.k l.i l.text
