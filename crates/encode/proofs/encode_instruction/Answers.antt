-- `encode_instruction` meets its contract: by the head, and by the tail in place or a copy of it. Assumes nothing.
use native.Mathlib.Omega.{arith}
use Rattle.std.specs.Option.{option_copied}
use Rattle.instruction.proofs.FirstPiece.{head_of_lem}
use Rattle.instruction.proofs.Joined.{start_within}
use Rattle.encode.proofs.Instructions.{unknown, conditioned, encoded, encoded_there}
use Rattle.encode.proofs.encode_instruction.Goals as goal

pub slice_bounds-find_operation_by-count : goal.slice_bounds-find_operation_by-count
slice_bounds-find_operation_by-count c = (head_of_lem _ _ c.read_head-head.ensures).ordered

pub slice_bounds-find_operation_by-start : goal.slice_bounds-find_operation_by-start
slice_bounds-find_operation_by-start c = omega (arith, head_of_lem _ _ c.read_head-head.ensures)

pub slice_bounds-find_operation_by-end : goal.slice_bounds-find_operation_by-end
slice_bounds-find_operation_by-end c = omega (arith, head_of_lem _ _ c.read_head-head.ensures)

pub skip_blanks-start-requires : goal.skip_blanks-start-requires
skip_blanks-start-requires c = (head_of_lem _ _ c.read_head-head.ensures).within

pub is_joined-requires : goal.is_joined-requires
is_joined-requires c = omega (arith, start_within _ _ _ c.skip_blanks-start.ensures (head_of_lem _ _ c.read_head-head.ensures).within)

pub slice_bounds-encode_tail-count : goal.slice_bounds-encode_tail-count
slice_bounds-encode_tail-count c = start_within _ _ _ c.skip_blanks-start.ensures (head_of_lem _ _ c.read_head-head.ensures).within

pub slice_bounds-encode_tail-start : goal.slice_bounds-encode_tail-start
slice_bounds-encode_tail-start c = omega (arith, start_within _ _ _ c.skip_blanks-start.ensures (head_of_lem _ _ c.read_head-head.ensures).within)

pub returns-in_err-o : goal.returns-in_err-o
returns-in_err-o c = rw (c.from_residual.ensures, unknown (option_copied c.args.names) _ _ c.read_head-head.ensures c.find_operation_by.ensures c.in_err-o.was c.args.labels.now.table c.args.address)

pub encode_tail-requires : goal.encode_tail-requires
encode_tail-requires c = (c.requires.0, conditioned _ _ _ c.read_head-head.ensures c.find_operation_by.ensures c.in_ok-o.was)

pub returns-then-is_joined : goal.returns-then-is_joined
returns-then-is_joined c = encoded_there _ _ _ c.read_head-head.ensures c.find_operation_by.ensures c.in_ok-o.was _ _ c.skip_blanks-start.ensures c.is_joined.ensures c.if-is_joined.true c.encode_tail.ensures

pub encode_copied-requires : goal.encode_copied-requires
encode_copied-requires c = record { near = (c.requires.0, conditioned _ _ _ c.read_head-head.ensures c.find_operation_by.ensures c.in_ok-o.was); at_in_bounds = ((head_of_lem _ _ c.read_head-head.ensures).within, c.requires.1) }

pub returns : goal.returns
returns c = encoded _ _ _ c.read_head-head.ensures c.find_operation_by.ensures c.in_ok-o.was _ _ c.encode_copied.ensures
