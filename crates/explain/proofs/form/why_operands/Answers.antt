-- `form::why_operands` by the operands that stand in the tail, where there are as many as the shape asks. Assumes nothing.
use native.Mathlib.Omega.{arith}
use Rattle.instruction.proofs.Places.{operands_of_lem}
use Rattle.explain.proofs.Operations.{told_by_one, told_by_first, told_by_two, as_shape}
use Rattle.explain.proofs.form.why_operands.Goals as goal

pub returns-else-count-ne1 : goal.returns-else-count-ne1
returns-else-count-ne1 c = as_shape c.in-One.ensures _ _ _ (told_by_one (operands_of_lem _ _ c.requires.found_value) _ _ _ c.if-count-ne1.false (rw c.part-s.ensures at c.why_one.ensures))

pub returns-else-count-eq0 : goal.returns-else-count-eq0
returns-else-count-eq0 c = as_shape c.in-OneOrMore.ensures _ _ _ (told_by_first (operands_of_lem _ _ c.requires.found_value) _ _ _ (omega arith) (rw (← c.part-s.ensures) c.why_one-in-OneOrMore.ensures))

pub returns-else-count-ne2 : goal.returns-else-count-ne2
returns-else-count-ne2 c = as_shape c.in-Two.ensures _ _ _ (told_by_two (operands_of_lem _ _ c.requires.found_value) _ _ _ c.if-count-ne2.false (rw (c.part-s.ensures, c.part-t.ensures) at c.why_pairs.ensures))
