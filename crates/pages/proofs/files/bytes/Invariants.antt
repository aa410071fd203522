-- The bytes so far, and the pieces that are left. Assumes nothing.
use Rattle.pages.specs.Files.{byte}
use Rattle.pages.proofs.Filed.{Mapped}
use Rattle.pages.proofs.files.bytes.Given as goal

abbrev pub invariant-loop-k : goal.invariant-loop-k
invariant-loop-k l = Mapped (λ p. byte p.now) l.pieces l.k l.text.items
