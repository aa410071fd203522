-- `benchtext::push_registers` meets its contract. Assumes nothing.
use native.Mathlib.Omega.{arith}
use native.Mathlib.Numerals.{add-one}
use Rattle.listing.proofs.Adding.{adds_both, adds_none}
use Rattle.benchtext.specs.BenchText.{registers_text}
use Rattle.benchtext.proofs.push_registers.Goals as goal

pub loop-value-init : goal.loop-value-init
unfolding registers_text
loop-value-init c = record { text = adds_none _ (omega arith); len = omega arith }

pub loop-value-preserved : goal.loop-value-preserved
unfolding registers_text
loop-value-preserved c = record { text = rw (add-one c.loop-value.value-index) (adds_both c.loop-value.invariant.text c.push_long.ensures.text); len = omega arith }
