-- `split_operands` takes one part after the other. Assumes nothing.
use native.Mathlib.Omega.{arith}
use Rattle.instruction.proofs.Split.{splitting_end, splitting_more, end_within}
use Rattle.instruction.proofs.split_operands.Goals as goal

pub trimmed_span-requires : goal.trimmed_span-requires
trimmed_span-requires c = end_within _ _ c.loop-found.invariant.upto _ c.part_end-end.ensures

pub returns-then-end-t : goal.returns-then-end-t
returns-then-end-t c = splitting_end c.loop-found.invariant c.part_end-end.ensures c.trimmed_span.ensures c.with_operand-found.ensures c.if-end-t.true

pub overflow_add-at : goal.overflow_add-at
overflow_add-at c = omega (arith, end_within _ _ c.loop-found.invariant.upto _ c.part_end-end.ensures)

pub loop-found-preserved : goal.loop-found-preserved
loop-found-preserved c = splitting_more c.loop-found.invariant c.part_end-end.ensures c.trimmed_span.ensures c.with_operand-found.ensures c.if-end-t.false
