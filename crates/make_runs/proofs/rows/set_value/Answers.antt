-- A word more. Assumes nothing.
use Rattle.std.proofs.Common.{refl, arith}
use native.Mathlib.Numerals.{add-one}
use Rattle.benchtext.specs.BenchText.{with_value}
use Rattle.benchtext.proofs.Threshold.{value_step}
use Rattle.make_runs.proofs.rows.set_value.Goals as goal

pub loop-i-init : goal.loop-i-init
unfolding with_value
loop-i-init c = refl

pub loop-i-preserved : goal.loop-i-preserved
loop-i-preserved c = rw (add-one c.loop-i.i, value_step c.loop-i.i c.args.address c.args.value c.args.addresses.now c.args.words.now (omega arith) (omega arith), ← c.loop-i.invariant, c.word_at.ensures)
