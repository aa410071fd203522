-- As many digits are put after what is written.
use Rattle.std.proofs.Common.{refl, arith}
use Rattle.listing.proofs.Digits.{length_digits}
use Rattle.listing.proofs.Adding.{adds_put}
use Rattle.listing.proofs.writer.Writer.push_digits.Goals as goal

pub returns-clause-text : goal.returns-clause-text
returns-clause-text c = let k = length_digits c.args.base c.args.count c.args.n in adds_put (omega arith) refl (omega arith) c.write_digits.ensures
