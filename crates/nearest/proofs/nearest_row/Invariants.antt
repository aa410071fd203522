-- `nearest_row` has before each row the nearest of the rows from there on. Assumes nothing.
use Rattle.std.proofs.Common.{◌≡◌, drop}
use Rattle.std.specs.Option.{option_map}
use Rattle.requests.specs.Nearest.{nearest_in}
use Rattle.label.specs.Numbers.{numbers_of}
use Rattle.nearest.proofs.nearest_row.Given as goal

abbrev pub invariant-loop-k : goal.invariant-loop-k
invariant-loop-k l = l.best ≡ option_map numbers_of (nearest_in l.address (drop l.k l.labels.table))
