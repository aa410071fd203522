-- The two cells of a line: what is kept, written into them and read from them. Assumes nothing.
use Rattle.std.specs.Prelude.{◌≡◌, ℕ, ◌+◌, ◌*◌, ◌/◌, ◌%◌, ◌≤◌, cond, List, eqb, length, set, get_or}
use Rattle.rules.specs.Limits.{max_source}
use Rattle.line.specs.declared.Task.{Task}
use Rattle.line.specs.declared.Task.TheVariants.{Skipped, End, Org, NoOrg, LabelOnly, Instruction, Value, Space}
use Rattle.cells.specs.declared.Kept.{Kept}

-- how many data words a task has
abbrev pub data_words : Task → ℕ
data_words Skipped = 0
data_words End = 0
data_words (Org v) = 0
data_words NoOrg = 0
data_words LabelOnly = 0
data_words (Instruction s) = 0
data_words (Value n v) = 2
data_words (Space n) = 0

-- the address after a line that is read at address a, by its size
abbrev pub task_after : ℕ → ℕ → Task → ℕ → ℕ
task_after base a Skipped n = a + n
task_after base a End n = a + n
task_after base a (Org v) n = base + v
task_after base a NoOrg n = a + n
task_after base a LabelOnly n = a + n
task_after base a (Instruction s) n = a + n
task_after base a (Value m v) n = a + n
task_after base a (Space m) n = a + n

abbrev pub after_by : ℕ → ℕ → Kept → ℕ
after_by base a k = task_after base a k.task k.size

-- a task's kind, and its number or place
abbrev pub kind_of : Task → ℕ
kind_of Skipped = 0
kind_of End = 1
kind_of (Org v) = 2
kind_of (Instruction s) = 3
kind_of (Value n v) = 4
kind_of (Space n) = 5
kind_of NoOrg = 6
kind_of LabelOnly = 7

abbrev pub head_cell : Kept → ℕ
head_cell k = 8 * k.size + kind_of k.task

abbrev pub tail_cell : Task → ℕ
tail_cell Skipped = 0
tail_cell End = 0
tail_cell (Org v) = v
tail_cell NoOrg = 0
tail_cell LabelOnly = 0
tail_cell (Instruction s) = 65536 * s.end + s.start
tail_cell (Value n v) = v
tail_cell (Space n) = 0

-- the task of a kind and a size
unfoldable pub task_in : ℕ → ℕ → ℕ → Task
task_in kind size cell =
    cond (eqb kind 3) (Instruction (record { start = cell % 65536; end = cell / 65536 }))
    (cond (eqb kind 4) (Value size cell)
    (cond (eqb kind 5) (Space size)
    (cond (eqb kind 2) (Org cell)
    (cond (eqb kind 1) End
    (cond (eqb kind 6) NoOrg
    (cond (eqb kind 7) LabelOnly Skipped))))))

-- what two cells keep
abbrev pub kept_by : ℕ → ℕ → Kept
kept_by head tail = record { task = task_in (head % 8) (head / 8) tail; size = head / 8 }

-- what is kept of line k
abbrev pub kept_at : List ℕ → ℕ → Kept
kept_at cells k = kept_by (get_or cells (2 * k) 0) (get_or cells (2 * k + 1) 0)

-- line k written
abbrev pub with_line : List ℕ → ℕ → ℕ → ℕ → List ℕ
with_line cells k head tail = set (set cells (2 * k) head) (2 * k + 1) tail

-- line k has its cells
pub record InCells (cells : List ℕ) (k : ℕ) : Type 0 where
  pub room : 2 * k + 2 ≤ length cells

-- an instruction's place fits into a cell
abbrev pub PlaceFits : Task → Type 0
PlaceFits Skipped = Unit
PlaceFits End = Unit
PlaceFits (Org v) = Unit
PlaceFits NoOrg = Unit
PlaceFits LabelOnly = Unit
PlaceFits (Instruction s) = (s.start ≤ max_source) × (s.end ≤ max_source)
PlaceFits (Value n v) = Unit
PlaceFits (Space n) = Unit

-- the size is that of the data
abbrev pub SizeIs : ℕ → Task → Type 0
SizeIs n Skipped = Unit
SizeIs n End = Unit
SizeIs n (Org v) = Unit
SizeIs n NoOrg = Unit
SizeIs n LabelOnly = Unit
SizeIs n (Instruction s) = Unit
SizeIs n (Value m v) = m ≡ n
SizeIs n (Space m) = m ≡ n

-- what can be kept
pub record Fits (k : Kept) : Type 0 where
  pub small : k.size ≤ 7
  pub place : PlaceFits k.task
  pub sized : SizeIs k.size k.task
