-- `passes_with` lends cells of zeros. Assumes nothing.
use Rattle.std.proofs.Common.{arith}
use Rattle.std.proofs.lemmas.List.{take-replicate}
use Rattle.label.specs.Table.{hashes}
use Rattle.assemble.proofs.passes_with.Goals as goal

pub new-labels-requires : goal.new-labels-requires
new-labels-requires g c = take-replicate hashes _ 0 (omega (arith, c.requires.table))
