-- Cells written and read again: a line comes back as it was, and the other lines stay. Assumes nothing.
use mathlib.Core.Path.{◌≡◌, refl, ◌∙◌}
use mathlib.Core.List.{List}
use Prim.Native.Nat.{ℕ, suc, ◌+◌, ◌*◌, ◌/◌, ◌%◌, ◌≤◌, ◌<◌}
use native.Mathlib.Omega.{arith}
use lib.ListN.{length, set, drop, get_or, length-set}
use lib.Seq.{get_or-set_same, get_or-set_other, drop-set-lt}
use Rattle.rules.specs.Limits.{max_source}
use Rattle.text.specs.declared.Span.{Span}
use Rattle.line.specs.declared.Task.{Task}
use Rattle.line.specs.declared.Task.TheVariants.{Skipped, End, Org, NoOrg, LabelOnly, Instruction, Value, Space}
use Rattle.cells.specs.Cells.{task_after, kind_of, head_cell, tail_cell, task_in, kept_by, kept_at, with_line, InCells, PlaceFits, SizeIs, Fits}
use Rattle.cells.specs.declared.Kept.{Kept}

-- ---- for the functions

-- a line that is no ORG goes on by its size
pub goes_on : (base a : ℕ) (t : Task) (n : ℕ) → ((v : ℕ) → t ≡ Org v → ⊥) → a + n ≡ task_after base a t n
goes_on base a Skipped n h = refl
goes_on base a End n h = refl
goes_on base a (Org v) n h = absurd (h v refl)
goes_on base a NoOrg n h = refl
goes_on base a LabelOnly n h = refl
goes_on base a (Instruction s) n h = refl
goes_on base a (Value m v) n h = refl
goes_on base a (Space m) n h = refl

pub place_fits : {t : Task} {s : Span} → PlaceFits t → t ≡ Instruction s → (s.start ≤ max_source) × (s.end ≤ max_source)
place_fits f e = rw e at f

pub kind_small : (t : Task) → kind_of t < 8
kind_small Skipped = omega arith
kind_small End = omega arith
kind_small (Org v) = omega arith
kind_small NoOrg = omega arith
kind_small LabelOnly = omega arith
kind_small (Instruction s) = omega arith
kind_small (Value n v) = omega arith
kind_small (Space n) = omega arith

-- ---- a line comes back as it was

-- the parts of a first cell, and of a place
module _ (n k : ℕ) (h : k < 8) where
  kind_of_lem : (8 * n + k) % 8 ≡ k
  kind_of_lem = omega arith

  size_of : (8 * n + k) / 8 ≡ n
  size_of = omega arith

module _ (a b : ℕ) (h : a ≤ max_source) where
  low_of : (65536 * b + a) % 65536 ≡ a
  low_of = omega arith

  high_of : (65536 * b + a) / 65536 ≡ b
  high_of = omega arith

task_back : (n : ℕ) (t : Task) → PlaceFits t → SizeIs n t → task_in (kind_of t) n (tail_cell t) ≡ t
unfolding task_in
task_back n Skipped p z = refl
task_back n End p z = refl
task_back n (Org v) p z = refl
task_back n NoOrg p z = refl
task_back n LabelOnly p z = refl
task_back n (Instruction s) p z = rw (low_of s.start s.end p.0, high_of s.start s.end p.0)
task_back n (Value m v) p z = rw z
task_back n (Space m) p z = rw z

pub kept_back : (k : Kept) → Fits k → kept_by (head_cell k) (tail_cell k.task) ≡ k
kept_back k f =
    rw (kind_of_lem k.size (kind_of k.task) (kind_small k.task), size_of k.size (kind_of k.task) (kind_small k.task), task_back k.size k.task f.place f.sized)

-- ---- a line written among others
module _ (cells : List ℕ) (k head tail : ℕ) where
  pub with_length : length (with_line cells k head tail) ≡ length cells
  with_length = rw (length-set, length-set)

  pub with_past : drop (2 * suc k) (with_line cells k head tail) ≡ drop (2 * suc k) cells
  with_past = rw (drop-set-lt (2 * suc k) (set cells (2 * k) head) (2 * k + 1) tail (omega arith), drop-set-lt (2 * suc k) cells (2 * k) head (omega arith))

  -- read by whatever function of the two cells
  pub with_this : {A : Type 0} (f : ℕ → ℕ → A) → InCells cells k → f (get_or (with_line cells k head tail) (2 * k) 0) (get_or (with_line cells k head tail) (2 * k + 1) 0) ≡ f head tail
  with_this f h =
      rw (get_or-set_same (set cells (2 * k) head) (2 * k + 1) tail 0 (rw length-set (omega arith)), get_or-set_other (set cells (2 * k) head) (2 * k + 1) (2 * k) tail 0 (omega arith), get_or-set_same cells (2 * k) head 0 (omega arith))

  pub with_other : {A : Type 0} (f : ℕ → ℕ → A) (j : ℕ) → (j ≡ k → ⊥)
      → f (get_or (with_line cells k head tail) (2 * j) 0) (get_or (with_line cells k head tail) (2 * j + 1) 0) ≡ f (get_or cells (2 * j) 0) (get_or cells (2 * j + 1) 0)
  with_other f j h =
      rw (get_or-set_other (set cells (2 * k) head) (2 * k + 1) (2 * j) tail 0 (omega arith), get_or-set_other (set cells (2 * k) head) (2 * k + 1) (2 * j + 1) tail 0 (omega arith), get_or-set_other cells (2 * k) (2 * j) head 0 (omega arith), get_or-set_other cells (2 * k) (2 * j + 1) head 0 (omega arith))

-- line k kept
abbrev pub with_kept : List ℕ → ℕ → Kept → List ℕ
with_kept cells k r = with_line cells k (head_cell r) (tail_cell r.task)

pub with_back : (cells : List ℕ) (k : ℕ) (r : Kept) → InCells cells k → Fits r → kept_at (with_kept cells k r) k ≡ r
with_back cells k r h f = with_this cells k (head_cell r) (tail_cell r.task) kept_by h ∙ kept_back r f
