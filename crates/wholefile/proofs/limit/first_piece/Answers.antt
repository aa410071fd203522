use Rattle.wholefile.proofs.Heads.{piece_fits}
use Rattle.wholefile.proofs.limit.first_piece.Goals as goal

pub slice_bounds-result-end : goal.slice_bounds-result-end
slice_bounds-result-end c = piece_fits c.skip_piece.result c.trimmed-rest.result.now c.skip_piece.ensures
