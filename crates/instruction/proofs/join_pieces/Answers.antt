-- `join_pieces` adds one piece after the other. Assumes nothing.
use native.Mathlib.Omega.{arith}
use Rattle.instruction.proofs.Tail.{joining_start, joining_length, joining_whole, joining_within, joining_asks, joining_more}
use Rattle.instruction.proofs.join_pieces.Goals as goal

pub loop-at-init : goal.loop-at-init
loop-at-init c = joining_start _ _ _ c.requires.0 c.requires.1

pub returns-then-start-t : goal.returns-then-start-t
returns-then-start-t c = record { value = joining_length c.loop-at.invariant c.next_piece-p.ensures c.if-start-t.true; out_after = joining_whole c.loop-at.invariant c.next_piece-p.ensures c.if-start-t.true }

pub slice_bounds-add_piece-end : goal.slice_bounds-add_piece-end
slice_bounds-add_piece-end c = omega (arith, joining_within c.loop-at.invariant c.next_piece-p.ensures c.if-start-t.false)

pub add_piece-n-requires : goal.add_piece-n-requires
add_piece-n-requires c = joining_asks c.loop-at.invariant c.next_piece-p.ensures c.if-start-t.false

pub loop-at-preserved : goal.loop-at-preserved
loop-at-preserved c = joining_more c.loop-at.invariant c.next_piece-p.ensures c.if-start-t.false c.add_piece-n.ensures.value c.add_piece-n.ensures.out_after
