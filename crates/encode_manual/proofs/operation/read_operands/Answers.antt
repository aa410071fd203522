-- `operation::read_operands`, by the count. Assumes nothing.
use native.Mathlib.Omega.{arith}
use Rattle.instruction.proofs.Places.{operands_of_lem}
use Rattle.encode_manual.proofs.Instructions.{no_operand_lem, one_operand, two_operands, more_operands}
use Rattle.encode_manual.proofs.operation.read_operands.Goals as goal

pub returns-then-count-eq0 : goal.returns-then-count-eq0
returns-then-count-eq0 c = no_operand_lem _ _ _ c.requires.found_value c.if-count-eq0.true c.bare.ensures

pub slice_bounds-s-count : goal.slice_bounds-s-count
slice_bounds-s-count c = omega (arith, (operands_of_lem _ _ c.requires.found_value).first (omega arith))

pub slice_bounds-s-start : goal.slice_bounds-s-start
slice_bounds-s-start c = omega (arith, (operands_of_lem _ _ c.requires.found_value).first (omega arith))

pub slice_bounds-s-end : goal.slice_bounds-s-end
slice_bounds-s-end c = omega (arith, (operands_of_lem _ _ c.requires.found_value).first (omega arith))

pub returns-then-count-eq1 : goal.returns-then-count-eq1
returns-then-count-eq1 c = one_operand _ _ _ c.requires.found_value c.if-count-eq1.true c.one.ensures

pub returns-then-count-ne2 : goal.returns-then-count-ne2
returns-then-count-ne2 c = more_operands _ _ _ c.requires.found_value c.if-count-eq0.false c.if-count-eq1.false c.if-count-ne2.true

pub slice_bounds-two-count : goal.slice_bounds-two-count
slice_bounds-two-count c = omega (arith, (operands_of_lem _ _ c.requires.found_value).second (omega arith))

pub slice_bounds-two-start : goal.slice_bounds-two-start
slice_bounds-two-start c = omega (arith, (operands_of_lem _ _ c.requires.found_value).second (omega arith))

pub slice_bounds-two-end : goal.slice_bounds-two-end
slice_bounds-two-end c = omega (arith, (operands_of_lem _ _ c.requires.found_value).second (omega arith))

pub returns : goal.returns
returns c = two_operands _ _ _ c.requires.found_value c.if-count-ne2.false c.two.ensures
