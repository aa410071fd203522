-- What a table of labels is to its callers: the source, the labels in the order of their first record, the cells, and for how
-- many labels they have rows. Assumes nothing.
use Rattle.std.specs.Prelude.{ℕ, List, ◌-◌, ◌/◌, length}
use Rattle.rules.specs.Text.{Text}
use Rattle.rules.specs.Label.{Table}
use Rattle.label.specs.Table.{hashes, table_of, Held}
use Rattle.label.specs.declared.Labels.TheInside.{Inside}

pub record Labelled : Type 0 where
  pub source : Text
  pub table : Table
  pub cells : List ℕ
  pub room : ℕ

abbrev pub labelled : Inside → Labelled
labelled s = record { source = s.source.now; table = table_of s.source.now s.cells.now s.count; cells = s.cells.now; room = (length s.cells.now - hashes) / 4 }

pub record IsHeld (s : Inside) : Type 0 where
  pub held : Held s.source.now s.cells.now s.count
