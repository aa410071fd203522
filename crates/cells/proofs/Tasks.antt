-- What a task comes to in the rules: its data words, its size, and the address after it. Assumes nothing.
use mathlib.Core.Path.{◌≡◌, refl}
use mathlib.Core.Bool.{Bool, true, false, cond}
use mathlib.Core.List.{List, [], ◌∷◌}
use Prim.Native.Nat.{ℕ, ◌≤◌}
use native.Mathlib.Omega.{arith}
use lib.ListN.{length}
use Rattle.rules.specs.Limits.{max_source}
use Rattle.rules.specs.Text.{Text, last_text}
use Rattle.rules.specs.Line.{Instruction as Said, instruction_of, is_long, instruction_size, size}
use Rattle.rules.specs.Assemble.{Sizes, address_after, data_contents, places_at, data_places}
use Rattle.text.specs.Spans.{span_text}
use Rattle.line.specs.declared.Task.{Task}
use Rattle.line.specs.declared.Task.TheVariants.{Skipped, End, Org, NoOrg, LabelOnly, Instruction, Value, Space}
use Rattle.line.specs.Line.{task_at, TaskIn}
use Rattle.cells.specs.Cells.{data_words, task_after, after_by, Fits}
use Rattle.cells.specs.Sizes.{size_of, Small}
use Rattle.cells.specs.declared.Kept.{Kept}

-- ---- data words
pub data_places_lem : (source : Text) (a : ℕ) (t : Task) → data_words t ≡ length (data_places (record { address = a; task = task_at source t }))
unfolding data_places data_contents places_at
data_places_lem source a Skipped = refl
data_places_lem source a End = refl
data_places_lem source a (Org v) = refl
data_places_lem source a NoOrg = refl
data_places_lem source a LabelOnly = refl
data_places_lem source a (Instruction s) = refl
data_places_lem source a (Value n v) = refl
data_places_lem source a (Space n) = refl

-- ---- the address after it, and sizes
after_task : (z : Sizes) (source : Text) (base a : ℕ) (t : Task) → task_after base a t (size_of z source t) ≡ address_after z base a (task_at source t)
unfolding address_after
after_task z source base a Skipped = omega arith
after_task z source base a End = omega arith
after_task z source base a (Org v) = refl
after_task z source base a NoOrg = omega arith
after_task z source base a LabelOnly = omega arith
after_task z source base a (Instruction s) = refl
after_task z source base a (Value n v) = refl
after_task z source base a (Space n) = refl

pub after_kept : (z : Sizes) (source : Text) (base a : ℕ) (k : Kept) → k.size ≡ size_of z source k.task → after_by base a k ≡ address_after z base a (task_at source k.task)
after_kept z source base a k e = rw e (after_task z source base a k.task)

-- the stations' are at most 4
long_most : (y : Bool) → cond y 4 2 ≤ 4
long_most true = omega arith
long_most false = omega arith

instruction_most : (i : Said) → size i ≤ 4
unfolding size instruction_size
instruction_most i = go i.operands
  where
    go : (ps : List Text) → instruction_size i.mnemonic i.suffix ps ≤ 4
    go [] = omega arith
    go (s ∷ []) = omega arith
    go (s ∷ t ∷ ps) = long_most (is_long i.mnemonic i.suffix s (last_text t ps))

pub rules_small : Small size
rules_small = record { most = λ i. omega (arith, instruction_most i) }

-- a task of the source can be kept with its size
pub task_fits : {z : Sizes} → Small z → (source : Text) (k : Kept) → length source ≤ max_source → TaskIn source k.task → k.size ≡ size_of z source k.task → Fits k
task_fits {z} w source k l h e = go k.task h e
  where
    go : (t : Task) → TaskIn source t → k.size ≡ size_of z source t → Fits (record { task = t; size = k.size })
    go Skipped h e = record { small = omega arith; place = tt; sized = tt }
    go End h e = record { small = omega arith; place = tt; sized = tt }
    go (Org v) h e = record { small = omega arith; place = tt; sized = tt }
    go NoOrg h e = record { small = omega arith; place = tt; sized = tt }
    go LabelOnly h e = record { small = omega arith; place = tt; sized = tt }
    go (Instruction s) h e = record { small = omega (arith, w.most (instruction_of (span_text source s))); place = (omega (arith, h.ordered, h.inside), omega (arith, h.inside)); sized = tt }
    go (Value n v) h e = record { small = omega arith; place = tt; sized = cc }
    go (Space n) h e = record { small = omega arith; place = tt; sized = cc }
