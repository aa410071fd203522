-- The files so far, and the rows that are left. Assumes nothing.
use Rattle.pages.specs.Files.{named}
use Rattle.pages.proofs.Filed.{Rest}
use Rattle.pages.proofs.files.read_files.Given as goal

abbrev pub invariant-loop-k : goal.invariant-loop-k
invariant-loop-k l = Rest (λ x. x.now) (λ h. named h) l.rows l.k l.files.items
