-- The labels of a line, recorded in the table. Assumes nothing.
use Rattle.std.specs.Prelude.{◌≡◌, ℕ, ◌+◌, ◌≤◌, min, List, [], ◌∷◌, length, Option}
use Rattle.rules.specs.Limits.{max_source, max_labels}
use Rattle.rules.specs.Text.{Text}
use Rattle.rules.specs.Line.{SourceLine, Name}
use Rattle.rules.specs.Label.{Table, record_all}
use Rattle.text.specs.Breaks.{line_number}
use Rattle.label.specs.Table.{cell_of}
use Rattle.label.specs.Labelled.{Labelled}
use Rattle.line.specs.declared.Names.{Names}
use Rattle.line.specs.Line.{NamesIn}
use Rattle.first.specs.Stopped.{record_some}
use Rattle.first.specs.Pass.{Unchanged}

-- there is room for n labels more, or for as many as there may be
pub record RoomFor (n : ℕ) (labels : Labelled) : Type 0 where
  pub room : min (length labels.table + n) max_labels ≤ labels.room

-- no label is lost, and the cells past the rows are unchanged
pub record Grown (old new : Labelled) : Type 0 where
  pub more : length old.table ≤ length new.table
  pub cells : Unchanged (cell_of (length new.table)) old.cells new.cells

-- room for two more, and labels that lie in the source
pub record RecordNamesNeeds (labels : Labelled) (ns : Names) : Type 0 where
  pub short : length labels.source ≤ max_source
  pub room : RoomFor 2 labels
  pub within : NamesIn labels.source ns

-- line k, counted from the source's start: the starts of its labels are counted in the source
abbrev pub at_start : ℕ → SourceLine
at_start k = record { number = k; start = 0; text = [] }

-- labels that stand on line k, their starts counted in the source
pub data OnLine (source : Text) (k : ℕ) : List Name → Type 0 where
  no_name : OnLine source k []
  and_name : {n : Name} {ns : List Name} → line_number source n.start ≡ k → OnLine source k ns → OnLine source k (n ∷ ns)

-- what recording labels of line k at the address a comes to, all of them or as many as there is room for
abbrev pub all_recorded : Table → List Name → ℕ → ℕ → Option Table
all_recorded t ns a k = record_all (at_start k) a ns t

abbrev pub some_recorded : Table → List Name → ℕ → ℕ → Table
some_recorded t ns a k = record_some (at_start k) a ns t
