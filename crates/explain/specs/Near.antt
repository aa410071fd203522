-- What a look at an operand needs of the labels and the instruction's address. Assumes nothing.
use Rattle.std.specs.Prelude.{ℕ, ◌^◌, ◌<◌}
use Rattle.label.specs.Table.{AllBelow}
use Rattle.label.specs.Labelled.{Labelled}

-- every address lies below 2^30, as a displacement needs it
pub record Near (labels : Labelled) (address : ℕ) : Type 0 where
  pub labels_below : AllBelow (2 ^ 30) labels.table
  pub address_below : address < 2 ^ 30
