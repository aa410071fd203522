-- `line_address` has before each line its address. Assumes nothing.
use Rattle.std.proofs.Common.{◌≡◌}
use Rattle.cells.specs.Puts.{address_at}
use Rattle.explain.proofs.line_address.Given as goal

abbrev pub invariant-loop-j : goal.invariant-loop-j
invariant-loop-j l = l.address ≡ address_at l.base l.cells l.j
