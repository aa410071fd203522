-- What the encoder needs of the labels and the instruction's address. Assumes nothing.
use Rattle.std.specs.Prelude.{ℕ, ◌^◌, ◌<◌}
use Rattle.rules.specs.Label.{Table}
use Rattle.label.specs.Table.{AllBelow}

-- every address lies below 2^30, as a displacement needs it
pub record Near (ls : Table) (address : ℕ) : Type 0 where
  pub labels_below : AllBelow (2 ^ 30) ls
  pub address_below : address < 2 ^ 30
