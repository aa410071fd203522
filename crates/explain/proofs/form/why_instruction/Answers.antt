-- `form::why_instruction` goes by the head, and by the tail in place or a copy of it. Assumes nothing.
use native.Mathlib.Omega.{arith}
use Rattle.instruction.proofs.FirstPiece.{head_of_lem}
use Rattle.instruction.proofs.Joined.{start_within}
use Rattle.explain.proofs.Operations.{why_read, why_there}
use Rattle.explain.proofs.form.why_instruction.Goals as goal

pub slice_bounds-find_operation_by-count : goal.slice_bounds-find_operation_by-count
slice_bounds-find_operation_by-count c = (head_of_lem _ _ c.read_head-head.ensures).ordered

pub slice_bounds-find_operation_by-start : goal.slice_bounds-find_operation_by-start
slice_bounds-find_operation_by-start c = omega (arith, head_of_lem _ _ c.read_head-head.ensures)

pub slice_bounds-find_operation_by-end : goal.slice_bounds-find_operation_by-end
slice_bounds-find_operation_by-end c = omega (arith, head_of_lem _ _ c.read_head-head.ensures)

pub is_joined-requires : goal.is_joined-requires
is_joined-requires c = omega (arith, start_within _ _ _ c.skip_blanks-start.ensures (head_of_lem _ _ c.read_head-head.ensures).within)

pub slice_bounds-why_tail-count : goal.slice_bounds-why_tail-count
slice_bounds-why_tail-count c = start_within _ _ _ c.skip_blanks-start.ensures (head_of_lem _ _ c.read_head-head.ensures).within

pub slice_bounds-why_tail-start : goal.slice_bounds-why_tail-start
slice_bounds-why_tail-start c = omega (arith, start_within _ _ _ c.skip_blanks-start.ensures (head_of_lem _ _ c.read_head-head.ensures).within)

pub returns-then-is_joined : goal.returns-then-is_joined
returns-then-is_joined c = why_there _ _ _ c.read_head-head.ensures _ _ c.in-Some.ensures c.skip_blanks-start.ensures c.is_joined.ensures c.if-is_joined.true c.why_tail.ensures

pub returns : goal.returns
returns c = why_read _ _ _ c.read_head-head.ensures _ _ c.in-Some.ensures c.why_copied.ensures
