-- A row read: the numbers of its label. Assumes nothing.
use Rattle.std.specs.Prelude.{ℕ, ◌+◌, List, length, get_or}
use Rattle.rules.specs.Label.{Label}
use Rattle.label.specs.Table.{cell_of}
use Rattle.label.specs.declared.Row.{Row}

-- a label by its numbers
abbrev pub numbers_of : Label → Row
numbers_of l = record { start = l.start; length = length l.name; address = l.address }

-- the numbers in row k
abbrev pub row_in : List ℕ → ℕ → Row
row_in cells k = record { start = get_or cells (cell_of k) 0; length = get_or cells (cell_of k + 1) 0; address = get_or cells (cell_of k + 2) 0 }
