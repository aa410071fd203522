-- A byte is set after what is written.
use Rattle.std.proofs.Common.{refl, arith}
use Rattle.text.proofs.Over.{set_put}
use Rattle.listing.proofs.Adding.{adds_put}
use Rattle.listing.proofs.writer.Writer.push.Goals as goal

pub returns : goal.returns
returns c = adds_put (omega arith) refl refl (set_put _ _ _ c.requires)
