-- A value that a line of data has is below 2^32, and no line takes more than 4 bytes, by the rules' reading of a line. Assumes nothing.
use Rattle.std.specs.Prelude.{Option, None, Some}
use Prim.Native.Nat.{ℕ, ◌^◌, ◌≤◌, ◌<◌}
use mathlib.Core.Path.{◌≡◌, refl}
use mathlib.Core.Bool.{Bool, true, false, ◌||◌, cond}
use mathlib.Core.List.{List, [], ◌∷◌}
use native.Mathlib.Omega.{arith}
use Rattle.rules.specs.Text.{Text, bytes, uppers, pieces, starts, contains, nth, last_text}
use Rattle.rules.specs.Number.{Reading, read, failed, value_of, reading32}
use Rattle.rules.specs.Sum.{sum_reading}
use Rattle.rules.specs.Line.{Instruction, Task, skipped, end, org, no_org, label_only, instruction, value, space, Line, value_reading, value_reading_in, data_size, data_value, sized, data_task, org_task, line_of, is_long, instruction_size, size}
use Rattle.rules.proofs.Readings.{All, reading32_all}
use Rattle.promises.proofs.Sums.{sum_low}
use Rattle.promises.proofs.Shapes.{Shape, skips, ends, moves, names, codes, holds, shape}

abbrev Value : ℕ → Type 0
Value v = v < 2 ^ 32

-- the value and the size of a task's data
abbrev pub TaskLow : Task → Type 0
TaskLow skipped = Unit {0}
TaskLow end = Unit {0}
TaskLow (org v) = Unit {0}
TaskLow no_org = Unit {0}
TaskLow label_only = Unit {0}
TaskLow (instruction i) = Unit {0}
TaskLow (value n v) = Value v × (n ≤ 4)
TaskLow (space n) = n ≤ 4

-- a size is 4 or less
size_low : (x y z : Bool) → cond x 4 (cond y 2 (cond z 1 2)) ≤ 4
size_low true y z = omega arith
size_low false true z = omega arith
size_low false false true = omega arith
size_low false false false = omega arith

data_size_lem : (u : Text) → data_size u ≤ 4
unfolding data_size
data_size_lem u =
    size_low (contains (bytes "DC.L") u || contains (bytes "DS.L") u) (contains (bytes "DC.W") u || contains (bytes "DS.W") u)
    (contains (bytes "DC.B") u || contains (bytes "DS.B") u)

-- a sum's value, and so DC's
value_all : (p : Text) → All Value (value_of (value_reading p))
unfolding value_reading value_of
value_all p = go (starts (bytes "[") p)
  where
    of_sum : (r : Reading ℕ) → sum_reading p ≡ r → All Value (value_of r)
    of_sum (read v) e = sum_low p v e
    of_sum (failed x) e = tt

    go : (x : Bool) → All Value (value_of (cond x (sum_reading p) (reading32 p)))
    go true = of_sum (sum_reading p) refl
    go false = reading32_all p

data_value_lem : (u d : Text) → All Value (data_value u d)
unfolding data_value value_reading_in value_of
data_value_lem u d = go (contains (bytes "DC.") u)
  where
    piece : (o : Option Text) → All Value (value_of (value_reading_in o))
    piece None = tt
    piece (Some p) = value_all p

    go : (x : Bool) → All Value (cond x (value_of (value_reading_in (nth 1 (pieces d)))) None)
    go true = piece (nth 1 (pieces d))
    go false = tt

sized_low : (n : ℕ) (o : Option ℕ) → n ≤ 4 → All Value o → TaskLow (sized n o)
unfolding sized
sized_low n None h k = h
sized_low n (Some v) h k = (k, h)

-- of each shape of a line, and so of every line
shape_low : {r : Line} → Shape r → TaskLow r.task
unfolding org_task data_task
shape_low skips = tt
shape_low ends = tt
shape_low (moves None) = tt
shape_low (moves (Some v)) = tt
shape_low (names ns) = tt
shape_low (codes ns i) = tt
shape_low (holds ns s d) = sized_low (data_size (uppers s)) (data_value (uppers s) d) (data_size_lem (uppers s)) (data_value_lem (uppers s) d)

pub task_low : (s : Text) → TaskLow (line_of s).task
task_low s = shape_low (shape s)

-- an instruction takes at most 4 bytes
pub instruction_low : (i : Instruction) → size i ≤ 4
unfolding size instruction_size
instruction_low i = go i.operands
  where
    long : (x : Bool) → cond x 4 2 ≤ 4
    long true = omega arith
    long false = omega arith

    go : (ps : List Text) → instruction_size i.mnemonic i.suffix ps ≤ 4
    go [] = omega arith
    go (s ∷ []) = omega arith
    go (s ∷ t ∷ ps) = long (is_long i.mnemonic i.suffix s (last_text t ps))
