-- A label recorded in the cells, and every cell afterwards. Assumes nothing.
use Rattle.std.specs.Prelude.{ℕ, ◌+◌, ◌-◌, List, Option, None, Some, length, set, take, drop, get_or}
use Rattle.rules.specs.Text.{Text}
use Rattle.rules.specs.Label.{Label, Table}
use Rattle.label.specs.Table.{hash_of, label_at, cell_of, row_of}

-- row k written
abbrev pub with_row : List ℕ → ℕ → ℕ → ℕ → ℕ → List ℕ
with_row cells k s l a = set (set (set cells (cell_of k) s) (cell_of k + 1) l) (cell_of k + 2) a

-- row k put in front of the chain of the hash h
abbrev pub with_head : List ℕ → ℕ → ℕ → List ℕ
with_head cells k h = set (set cells (cell_of k + 3) (get_or cells h 0)) h (k + 1)

-- the label recorded, and its name
abbrev pub span_label : Text → ℕ → ℕ → ℕ → Label
span_label source start end address = label_at source start (end - start) address

abbrev pub span_name : Text → ℕ → ℕ → Text
span_name source start end = take (end - start) (drop start source)

-- the cells afterwards, by the row that the label's name has already, if it has one: that row written, or the next, n, put in front of
-- the chain of the name's hash h
abbrev pub cells_for : Option ℕ → ℕ → List ℕ → ℕ → ℕ → ℕ → ℕ → List ℕ
cells_for (Some k) n cells h s l a = with_row cells k s l a
cells_for None n cells h s l a = with_head (with_row cells n s l a) n h

-- where the cells hold the labels t
abbrev pub cells_with : Text → Table → List ℕ → ℕ → ℕ → ℕ → List ℕ
cells_with source t cells start end address =
    cells_for (row_of (span_name source start end) t) (length t) cells (hash_of (span_name source start end)) start (end - start) address
