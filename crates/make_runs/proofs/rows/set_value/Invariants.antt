-- The words up to here are those with the value. Assumes nothing.
use Rattle.std.proofs.Common.{◌≡◌}
use Rattle.benchtext.specs.BenchText.{with_value}
use Rattle.make_runs.proofs.rows.set_value.Given as goal

abbrev pub invariant-loop-i : goal.invariant-loop-i
invariant-loop-i l = l.words ≡ with_value l.i l.address l.value l.addresses l.initial.words
