-- `hash_of` takes one byte after the other. Assumes nothing.
use Rattle.std.proofs.Common.{arith}
use Rattle.label.proofs.Chain.{hash_more, hash_all}
use Rattle.label.proofs.hash_of.Goals as goal

pub loop-byte-preserved : goal.loop-byte-preserved
loop-byte-preserved c = hash_more c.loop-byte.invariant (omega arith) c.from.ensures

pub returns : goal.returns
returns c = hash_all c.loop-byte.invariant (omega arith)
