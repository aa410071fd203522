-- `piece_head` finds a label in the first of two pieces, if that is no directive. Assumes nothing.
use mathlib.Core.Path.{sym}
use lib.Seq.{length-take-le}
use Rattle.line.proofs.Next.{next_part}
use native.Mathlib.Omega.{arith}
use Rattle.line.proofs.piece_head.Goals as goal

pub next_piece-second-requires : goal.next_piece-second-requires
next_piece-second-requires c = (next_part _ 0 _ c.next_piece-first.ensures (omega arith)).inside

pub slice_bounds-is_directive-end : goal.slice_bounds-is_directive-end
slice_bounds-is_directive-end c = sym (length-take-le _ _ (next_part _ 0 _ c.next_piece-first.ensures (omega arith)).inside)
