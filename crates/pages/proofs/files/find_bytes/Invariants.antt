-- The name is not that of the files so far. Assumes nothing.
use Rattle.pages.specs.Files.{named}
use Rattle.pages.proofs.Filed.{Sought}
use Rattle.pages.proofs.files.find_bytes.Given as goal

abbrev pub invariant-loop-k : goal.invariant-loop-k
invariant-loop-k l = Sought l.name (λ h. named h) l.files l.k
