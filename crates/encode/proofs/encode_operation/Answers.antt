-- `encode_operation` meets its contract: each way out is a law of the operation and its operands. Assumes nothing.
use Rattle.std.proofs.Common.{arith}
use Rattle.rules.specs.Encode.{encode_operation}
use Rattle.instruction.proofs.Places.{operands_of_lem}
use Rattle.encode.proofs.Operations.{first_lies, branch_none, branch_some, tst_none, tst_one, jmp_none, jmp_one, no_pair, pair}
use Rattle.encode.proofs.encode_operation.Goals as goal

pub slice_bounds-s-count : goal.slice_bounds-s-count
slice_bounds-s-count c = (first_lies _ _ c.requires.found_value).0

pub slice_bounds-s-start : goal.slice_bounds-s-start
slice_bounds-s-start c = omega (arith, first_lies _ _ c.requires.found_value)

pub slice_bounds-s-end : goal.slice_bounds-s-end
slice_bounds-s-end c = (first_lies _ _ c.requires.found_value).1

pub returns-in-Nop : goal.returns-in-Nop
unfolding encode_operation
returns-in-Nop c = rw c.in-Nop.is

pub returns-in-Simhalt : goal.returns-in-Simhalt
unfolding encode_operation
returns-in-Simhalt c = rw c.in-Simhalt.is

pub returns-then-found-eq0 : goal.returns-then-found-eq0
returns-then-found-eq0 c = rw (c.in-Branch.is, branch_none _ _ _ _ c.requires.found_value c.in-Branch.condition c.if-found-eq0.true)

pub returns-else-found-eq0 : goal.returns-else-found-eq0
returns-else-found-eq0 c = rw (c.in-Branch.is, branch_some _ _ _ _ c.requires.found_value c.in-Branch.condition c.if-found-eq0.false) c.encode_branch.ensures

pub returns-then-found-ne1 : goal.returns-then-found-ne1
returns-then-found-ne1 c = rw (c.in-Tst.is, tst_none _ _ _ _ c.requires.found_value c.if-found-ne1.true)

pub returns-else-found-ne1 : goal.returns-else-found-ne1
returns-else-found-ne1 c = rw (c.in-Tst.is, tst_one _ _ _ _ c.requires.found_value c.if-found-ne1.false) c.encode_tst.ensures

pub returns-then-found-ne1-2 : goal.returns-then-found-ne1-2
returns-then-found-ne1-2 c = rw (c.in-Jmp.is, jmp_none _ _ _ _ c.requires.found_value c.if-found-ne1-2.true)

pub returns-else-found-ne1-2 : goal.returns-else-found-ne1-2
returns-else-found-ne1-2 c = rw (c.in-Jmp.is, jmp_one _ _ _ _ c.requires.found_value c.if-found-ne1-2.false) c.encode_jump.ensures

pub returns-then-found-ne2 : goal.returns-then-found-ne2
returns-then-found-ne2 c = rw (no_pair _ _ _ _ c.requires.found_value c.args.o (record { not_nop = c.in_default.not-Nop; not_simhalt = c.in_default.not-Simhalt; not_branch = c.in_default.not-Branch; not_tst = c.in_default.not-Tst; not_jmp = c.in_default.not-Jmp }) c.if-found-ne2.true)

pub slice_bounds-t-count : goal.slice_bounds-t-count
slice_bounds-t-count c = omega (arith, (operands_of_lem _ _ c.requires.found_value).second (omega arith))

pub slice_bounds-t-start : goal.slice_bounds-t-start
slice_bounds-t-start c = omega (arith, (operands_of_lem _ _ c.requires.found_value).second (omega arith))

pub slice_bounds-t-end : goal.slice_bounds-t-end
slice_bounds-t-end c = omega (arith, (operands_of_lem _ _ c.requires.found_value).second (omega arith))

pub returns-else-found-ne2 : goal.returns-else-found-ne2
returns-else-found-ne2 c = rw (pair _ _ _ _ c.requires.found_value c.args.o (record { not_nop = c.in_default.not-Nop; not_simhalt = c.in_default.not-Simhalt; not_branch = c.in_default.not-Branch; not_tst = c.in_default.not-Tst; not_jmp = c.in_default.not-Jmp }) c.if-found-ne2.false) c.encode_two.ensures
