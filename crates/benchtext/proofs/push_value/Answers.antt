-- `benchtext::push_value` meets its contract. Assumes nothing.
use native.Mathlib.Omega.{arith}
use Rattle.listing.proofs.Adding.{adds_both, adds_none}
use Rattle.benchtext.specs.BenchText.{value_text}
use Rattle.benchtext.proofs.push_value.Goals as goal

pub returns-in-Some-clause-text : goal.returns-in-Some-clause-text
unfolding value_text
returns-in-Some-clause-text c = rw (c.in-Some.is, ← c.from.ensures) (adds_both c.push_decimal.ensures.text c.push.ensures)

pub returns-in_default-clause-text : goal.returns-in_default-clause-text
unfolding value_text
returns-in_default-clause-text c = rw c.in_default.is (adds_none _ (omega arith))
