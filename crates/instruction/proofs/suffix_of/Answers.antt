-- `suffix_of` reads what stands between the mnemonic's dot and the tail. Assumes nothing.
use native.Mathlib.Omega.{arith}
use Rattle.instruction.proofs.FirstPiece.{head_of_lem}
use Rattle.instruction.proofs.suffix_of.Goals as goal

pub overflow_add-head : goal.overflow_add-head
overflow_add-head c = omega (arith, head_of_lem _ _ c.requires)

pub slice_bounds-read_suffix-count : goal.slice_bounds-read_suffix-count
slice_bounds-read_suffix-count c = omega (arith, head_of_lem _ _ c.requires)

pub slice_bounds-read_suffix-start : goal.slice_bounds-read_suffix-start
slice_bounds-read_suffix-start c = omega (arith, head_of_lem _ _ c.requires)

pub slice_bounds-read_suffix-end : goal.slice_bounds-read_suffix-end
slice_bounds-read_suffix-end c = omega (arith, head_of_lem _ _ c.requires)
