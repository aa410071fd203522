-- `second_piece` is the piece after the next. Assumes nothing.
use Rattle.line.proofs.Next.{next_part, second_part}
use Rattle.line.proofs.second_piece.Goals as goal

pub next_piece-second-requires : goal.next_piece-second-requires
next_piece-second-requires c = (next_part _ _ _ c.next_piece-first.ensures c.requires).inside

pub slice_bounds-result-end : goal.slice_bounds-result-end
slice_bounds-result-end c = (second_part _ _ _ _ c.next_piece-first.ensures c.next_piece-second.ensures c.requires).inside
