-- `next_piece` steps over blanks, and over the piece after them. Assumes nothing.
use Rattle.text.proofs.Pieces.{next_within}
use Rattle.text.proofs.next_piece.Goals as goal

pub skip_piece-end-requires : goal.skip_piece-end-requires
skip_piece-end-requires c = search next_within

pub returns : goal.returns
returns c = cc
