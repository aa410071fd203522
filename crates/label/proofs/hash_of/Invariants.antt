-- `hash_of` takes one byte after the other. Assumes nothing.
use Rattle.label.proofs.Chain.{Hashing}
use Rattle.label.proofs.hash_of.Given as goal

abbrev pub invariant-loop-byte : goal.invariant-loop-byte
invariant-loop-byte l = Hashing l.name l.hash l.byte-index
