-- `stepper::fill` meets its contract. Assumes nothing.
use mathlib.Core.Path.{◌≡◌}
use lib.ListN.{replicate}
use Rattle.machine.specs.Bench.{fill_of}
use Rattle.stepper.proofs.fill.Given as goal

abbrev pub invariant-loop-i : goal.invariant-loop-i
invariant-loop-i l = l.mem ≡ fill_of l.i l.addresses l.words (replicate 16384 0)
