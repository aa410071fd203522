-- `next_row` has before each row the next of the rows from there on. Assumes nothing.
use Rattle.std.proofs.Common.{◌≡◌, drop}
use Rattle.std.specs.Option.{option_map}
use Rattle.label.specs.Numbers.{numbers_of}
use Rattle.symbols.specs.Symbols.{next_in}
use Rattle.symbols.proofs.next_row.Given as goal

abbrev pub invariant-loop-k : goal.invariant-loop-k
invariant-loop-k l = l.best ≡ option_map numbers_of (next_in l.from (drop l.k l.labels.table))
