-- `benchtext::set_value` meets its contract. Assumes nothing.
use mathlib.Core.Path.{◌≡◌}
use Rattle.benchtext.specs.BenchText.{with_value}
use Rattle.benchtext.proofs.set_value.Given as goal

abbrev pub invariant-loop-i : goal.invariant-loop-i
invariant-loop-i l = l.words ≡ with_value l.i l.threshold l.value l.addresses l.initial.words
