-- The labels as the code holds them: a head for each hash of a name, then rows of four cells, a label's start, length
-- and address, and the row before it whose name has the same hash. From its head on, a hash's rows are a chain.
-- Assumes nothing.
use Rattle.std.specs.Prelude.{◌≡◌, ℕ, zero, suc, ◌+◌, ◌*◌, ◌%◌, ◌≤◌, ◌<◌, true, false, List, [], ◌∷◌, ◌++◌, eqb, length, take, drop, get_or, Option, None, Some}
use Rattle.rules.specs.Text.{Text, same}
use Rattle.rules.specs.Label.{Label, Table}
use Rattle.text.specs.Find.{further}
use Rattle.text.specs.Breaks.{line_number}

-- how many hashes there are
abbrev pub hashes : ℕ
hashes = 128

-- the hash of a name, whose bytes before these have the hash h
unfoldable pub hash_from : ℕ → Text → ℕ
hash_from h [] = h
hash_from h (b ∷ s) = hash_from ((53 * h + b) % hashes) s

abbrev pub hash_of : Text → ℕ
hash_of n = hash_from 0 n

-- the label that stands at s in the source, l bytes long; its line is not kept, for its start tells it
abbrev pub label_at : Text → ℕ → ℕ → ℕ → Label
label_at source s l a = record { name = take l (drop s source); start = s; address = a; line = line_number source s }

-- the first cell of row k
abbrev pub cell_of : ℕ → ℕ
cell_of k = hashes + 4 * k

abbrev pub row : Text → List ℕ → ℕ → Label
row source cells k = label_at source (get_or cells (cell_of k) 0) (get_or cells (cell_of k + 1) 0) (get_or cells (cell_of k + 2) 0)

-- the first n rows
unfoldable pub table_of : Text → List ℕ → ℕ → Table
table_of source cells zero = []
table_of source cells (suc n) = table_of source cells n ++ (row source cells n ∷ [])

-- the name in row k, and its hash
abbrev pub name_at : Text → List ℕ → ℕ → Text
name_at source cells k = (row source cells k).name

abbrev pub hash_at : Text → List ℕ → ℕ → ℕ
hash_at source cells k = hash_of (name_at source cells k)

-- the last of the first n rows whose hash, by f, is h; counted from 1, and 0 where there is none
unfoldable pub last_with : (ℕ → ℕ) → ℕ → ℕ → ℕ
last_with f h zero = 0
last_with f h (suc n) = elim (eqb (f n) h) [ true ↦ suc n | false ↦ last_with f h n ]

-- the rows are all there, and their names lie in the source and differ; a head is the last row of its hash, and a
-- row's last cell is the row before it
pub record Held (source : Text) (cells : List ℕ) (count : ℕ) : Type 0 where
  pub rows : cell_of count ≤ length cells
  pub within : (k : ℕ) → k < count → get_or cells (cell_of k) 0 + get_or cells (cell_of k + 1) 0 ≤ length source
  pub differ : (j k : ℕ) → j < count → k < count → name_at source cells j ≡ name_at source cells k → j ≡ k
  pub heads : (h : ℕ) → h < hashes → get_or cells h 0 ≡ last_with (hash_at source cells) h count
  pub before : (k : ℕ) → k < count → get_or cells (cell_of k + 3) 0 ≡ last_with (hash_at source cells) (hash_at source cells k) k

-- the first row of the name n
unfoldable pub row_of : Text → Table → Option ℕ
row_of n [] = None
row_of n (l ∷ t) = elim (same n l.name) [ true ↦ Some 0 | false ↦ further 1 (row_of n t) ]

-- every label's address is below m
pub data AllBelow (m : ℕ) : Table → Type 0 where
  no_label : AllBelow m []
  and_label : {l : Label} {t : Table} → l.address < m → AllBelow m t → AllBelow m (l ∷ t)
