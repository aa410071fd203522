-- `line_at` leaves a line after at each turn. Assumes nothing.
use Rattle.cli_error.proofs.Walking.{Walk}
use Rattle.cli_error.proofs.shown.line_at.Given as goal

abbrev pub invariant-loop : goal.invariant-loop
invariant-loop l = Walk l.source l.k l.counter l.at
