-- `write_name` writes the name, and the colon after it. Assumes nothing.
use Rattle.std.proofs.Common.{arith}
use Rattle.listing.proofs.Adding.{adds_as, adds_both}
use Rattle.tidied.proofs.Colons.{name_short}
use Rattle.tidied.proofs.write_name.Goals as goal

pub push_bytes-requires : goal.push_bytes-requires
push_bytes-requires c = omega (arith, name_short c.args.s.now c.args.c c.trimmed.ensures c.requires.0)

pub push-requires : goal.push-requires
push-requires c = omega (arith, name_short c.args.s.now c.args.c c.trimmed.ensures c.requires.0)

pub returns : goal.returns
returns c = adds_both (adds_as c.push_bytes.ensures c.trimmed.ensures) c.push.ensures
