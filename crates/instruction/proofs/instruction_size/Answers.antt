-- `instruction_size` reads on only where the first byte leaves it open, and the tail only where an operand decides. Assumes nothing.
use native.Mathlib.Omega.{arith}
use Rattle.instruction.proofs.FirstPiece.{head_of_lem}
use Rattle.instruction.proofs.instruction_size.Goals as goal

pub slice_bounds-sized-count : goal.slice_bounds-sized-count
slice_bounds-sized-count c = (head_of_lem _ _ c.read_head-head.ensures).ordered

pub slice_bounds-sized-start : goal.slice_bounds-sized-start
slice_bounds-sized-start c = omega (arith, head_of_lem _ _ c.read_head-head.ensures)

pub slice_bounds-sized-end : goal.slice_bounds-sized-end
slice_bounds-sized-end c = omega (arith, head_of_lem _ _ c.read_head-head.ensures)
