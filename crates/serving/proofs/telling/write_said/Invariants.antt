-- What is gone from `rest` was appended.
use Rattle.std.proofs.Common.{◌≡◌, List, ◌++◌, ℕ}
use Rattle.std.specs.Io.KnownBytes.{Appends}
use Rattle.serving.proofs.telling.write_said.Given as goal

abbrev pub invariant-loop : goal.invariant-loop
invariant-loop g l = (done : List ℕ) × (l.initial.rest ≡ done ++ l.rest) × Appends (g.E.Write.contents l.initial.errors) (g.E.Write.contents l.errors) done
