use Rattle.pages.proofs.Filed.{one_filed}
use Rattle.pages.proofs.files.read_pieces.Goals as goal

pub returns-in_ok-bytes-in-len1-up : goal.returns-in_ok-bytes-in-len1-up
returns-in_ok-bytes-in-len1-up c = one_filed (λ p. p.now) c.args.pieces.now _ c.in_ok-bytes-in-len1-up.bytes.items c.in-len1-up.len_at_least c.in_ok-bytes-in-len1-up.ensures
