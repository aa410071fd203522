-- Labels that differ only in where they stand in the source: the same are found, the same are recorded, and the same words are made. Assumes nothing.
use Rattle.std.specs.Prelude.{Option, None, Some}
use Prim.Native.Nat.{ℕ, suc}
use mathlib.Core.Path.{◌≡◌, refl, sym, ap, ◌∙◌}
use mathlib.Core.Bool.{Bool, true, false}
use mathlib.Core.List.{List, [], ◌∷◌, map}
use native.Mathlib.Omega.{arith}
use lib.ListN.{length}
use Rattle.rules.specs.Text.{Text, same}
use Rattle.rules.specs.Line.{SourceLine, Name, Task, skipped, end, org, no_org, label_only, instruction, value, space}
use Rattle.rules.specs.Label.{Label, Table, find, recorded, has_room, label_of, record_all}
use Rattle.rules.specs.Encode.{Operation, moveq, move, movea, muls, tst, subq, asl, dbra, nop, simhalt, add, sub, cmp, jmp, branch, two, one, one_or_more, displacement, jumps, with_label, from_label, to_label, move_rows, movea_row, jump_row, dbra_row, branch_row, encode_operation, encode_by}
use Rattle.rules.specs.Assemble.{Encoder, Put, code_contents_by, code_places_by, places_at}
use Rattle.requests.specs.ManualCall.{Form, said, labelled, displaced, form, displacements, form_contents, form_fault, manual_encode, manual_fault}
use Rattle.requests.specs.ManualAssemble.{task_fault}
use Rattle.promises.specs.Tidy.{ByFind, EncodersFind, named}

-- the same names with the same addresses, in the same order
pub data Alike : Table → Table → Type 0 where
  no_labels : Alike [] []
  labels : {x y : Label} {t u : Table} → x.name ≡ y.name → x.address ≡ y.address → Alike t u → Alike (x ∷ t) (y ∷ u)

pub alike_named : {t u : Table} → Alike t u → map named u ≡ map named t
alike_named no_labels = refl
alike_named (labels e f q) = rw (e, f, alike_named q)

-- ---- what is found
find_here : (n : Text) (x : Label) (t : Table) → same n x.name ≡ true → find n (x ∷ t) ≡ Some x.address
unfolding find
find_here n x t e = rw (e, find)

find_later : (n : Text) (x : Label) (t : Table) → same n x.name ≡ false → find n (x ∷ t) ≡ find n t
unfolding find
find_later n x t e = rw (e, find)

pub find_alike : {t u : Table} → Alike t u → (n : Text) → find n t ≡ find n u
find_alike no_labels n = refl
find_alike (labels {x} {y} {t} {u} e f q) n = go (same n y.name) refl (find_alike q n)
  where
    go : (z : Bool) → same n y.name ≡ z → find n t ≡ find n u → find n (x ∷ t) ≡ find n (y ∷ u)
    go true g ih = find_here n x t (rw e g) ∙ rw f (sym (find_here n y u g))
    go false g ih = find_later n x t (rw e g) ∙ ih ∙ sym (find_later n y u g)

length_alike : {t u : Table} → Alike t u → length t ≡ length u
length_alike no_labels = refl
length_alike (labels e f q) = ap suc (length_alike q)

-- ---- what is recorded
recorded_here : (x y : Label) (t : Table) → same x.name y.name ≡ true → recorded x (y ∷ t) ≡ x ∷ t
unfolding recorded
recorded_here x y t e = rw (e, recorded)

recorded_later : (x y : Label) (t : Table) → same x.name y.name ≡ false → recorded x (y ∷ t) ≡ y ∷ recorded x t
unfolding recorded
recorded_later x y t e = rw (e, recorded)

recorded_alike : (x y : Label) → x.name ≡ y.name → x.address ≡ y.address → {t u : Table} → Alike t u → Alike (recorded x t) (recorded y u)
unfolding recorded
recorded_alike x y e f no_labels = labels e f no_labels
recorded_alike x y e f (labels {x = v} {y = w} {t} {u} g h q) = go (same y.name w.name) refl (recorded_alike x y e f q)
  where
    go : (z : Bool) → same y.name w.name ≡ z → Alike (recorded x t) (recorded y u) → Alike (recorded x (v ∷ t)) (recorded y (w ∷ u))
    go true k ih = rw (recorded_here x v t (rw (e, g) k), recorded_here y w u k) (labels e f q)
    go false k ih = rw (recorded_later x v t (rw (e, g) k), recorded_later y w u k) (labels g h ih)

-- tables, where there is one
pub data AlikeOption : Option Table → Option Table → Type 0 where
  no_tables : AlikeOption None None
  tables : {t u : Table} → Alike t u → AlikeOption (Some t) (Some u)

room_alike : (o : Option ℕ) {t u : Table} → Alike t u → has_room o t ≡ has_room o u
unfolding has_room
room_alike None q = rw (length_alike q)
room_alike (Some a) q = refl

abbrev texts : List Name → List Text
texts ns = map (λ n. n.text) ns

pub record_alike : (k l : SourceLine) (a : ℕ) (ns ms : List Name) {t u : Table} → texts ns ≡ texts ms → Alike t u → AlikeOption (record_all k a ns t) (record_all l a ms u)
unfolding record_all
record_alike k l a [] [] e q = tables q
record_alike k l a [] (m ∷ ms) e q = let z : ◌≡◌ {A = ℕ} 0 1 = cc in absurd (omega arith)
record_alike k l a (n ∷ ns) [] e q = let z : ◌≡◌ {A = ℕ} 0 1 = cc in absurd (omega arith)
record_alike k l a (n ∷ ns) (m ∷ ms) {t} {u} e q =
    let text : n.text ≡ m.text = cc in
    let others : texts ns ≡ texts ms = cc in
    let found : has_room (find n.text t) t ≡ has_room (find m.text u) u = rw (text, find_alike q m.text) (room_alike (find m.text u) q) in
    go (has_room (find m.text u) u) refl found (record_alike k l a ns ms others (recorded_alike (label_of k a n) (label_of l a m) text refl q))
  where
    go : (y : Bool) → has_room (find m.text u) u ≡ y → has_room (find n.text t) t ≡ has_room (find m.text u) u
        → AlikeOption (record_all k a ns (recorded (label_of k a n) t)) (record_all l a ms (recorded (label_of l a m) u)) → AlikeOption (record_all k a (n ∷ ns) t) (record_all l a (m ∷ ms) u)
    go true f g ih = rw (record_all, g, f) ih
    go false f g ih = rw (record_all, g, f) no_tables

-- ---- the words
-- rows that come to the same
module _ {A : Type 0} where
  two_same : (f g : Text → Text → Option A) → ((x y : Text) → f x y ≡ g x y) → (ps : List Text) → two f ps ≡ two g ps
  unfolding two
  two_same f g h [] = refl
  two_same f g h (x ∷ []) = refl
  two_same f g h (x ∷ y ∷ []) = h x y
  two_same f g h (x ∷ y ∷ z ∷ ps) = refl

  one_same : (f g : Text → Option A) → ((x : Text) → f x ≡ g x) → (ps : List Text) → one f ps ≡ one g ps
  unfolding one
  one_same f g h [] = refl
  one_same f g h (x ∷ []) = h x
  one_same f g h (x ∷ y ∷ ps) = refl

  more_same : (f g : Text → Option A) → ((x : Text) → f x ≡ g x) → (ps : List Text) → one_or_more f ps ≡ one_or_more g ps
  unfolding one_or_more
  more_same f g h [] = refl
  more_same f g h (x ∷ ps) = h x

module _ (t u : Table) (e : (n : Text) → find n t ≡ find n u) (a : ℕ) where
  move_alike : (x y : Text) → move_rows t x y ≡ move_rows u x y
  unfolding move_rows from_label to_label with_label
  move_alike x y = simp e

  movea_alike : (x y : Text) → movea_row t x y ≡ movea_row u x y
  unfolding movea_row with_label
  movea_alike x y = simp e

  jump_alike : (x : Text) → jump_row t x ≡ jump_row u x
  unfolding jump_row jumps
  jump_alike x = simp e

  dbra_alike : (x y : Text) → dbra_row t a x y ≡ dbra_row u a x y
  unfolding dbra_row displacement
  dbra_alike x y = simp e

  branch_alike : (c : ℕ) (x : Text) → branch_row t a c x ≡ branch_row u a c x
  unfolding branch_row displacement
  branch_alike c x = simp e

  operation_alike : (o : Operation) (ps : List Text) → encode_operation t a o ps ≡ encode_operation u a o ps
  unfolding encode_operation
  operation_alike move ps = two_same _ _ move_alike ps
  operation_alike movea ps = two_same _ _ movea_alike ps
  operation_alike muls ps = refl
  operation_alike add ps = refl
  operation_alike sub ps = refl
  operation_alike cmp ps = refl
  operation_alike moveq ps = refl
  operation_alike subq ps = refl
  operation_alike asl ps = refl
  operation_alike tst ps = refl
  operation_alike nop ps = refl
  operation_alike simhalt ps = refl
  operation_alike jmp ps = one_same _ _ jump_alike ps
  operation_alike dbra ps = two_same _ _ dbra_alike ps
  operation_alike (branch c) ps = more_same _ _ (branch_alike c) ps

  contents_alike : (g : Form) → form_contents t a g ≡ form_contents u a g
  unfolding form_contents displacements
  contents_alike (said i) = refl
  contents_alike (labelled g l) = rw (e l)
  contents_alike (displaced g s) = rw (e s)

  -- 14 and 15 of the manual's call
  fault_alike : (o : Option Form) → form_fault t a o ≡ form_fault u a o
  unfolding form_fault displacements
  fault_alike None = refl
  fault_alike (Some (said i)) = refl
  fault_alike (Some (labelled g l)) = rw (e l)
  fault_alike (Some (displaced g s)) = rw (e s)

  pub task_fault_alike : (k : Task) → task_fault t a k ≡ task_fault u a k
  unfolding task_fault manual_fault
  task_fault_alike skipped = refl
  task_fault_alike end = refl
  task_fault_alike (org v) = refl
  task_fault_alike no_org = refl
  task_fault_alike label_only = refl
  task_fault_alike (instruction i) = fault_alike (form i)
  task_fault_alike (value n v) = refl
  task_fault_alike (space n) = refl

pub encoders_find : EncodersFind
unfolding ByFind encode_by manual_encode
encoders_find = record { rules = λ names t u e a i. simp (operation_alike t u e a); manual = λ t u e a i. simp (contents_alike t u e a) }

pub code_alike : (e : Encoder) → ByFind e → {t u : Table} → Alike t u → (p : Put) → code_places_by e t p ≡ code_places_by e u p
unfolding code_places_by code_contents_by ByFind
code_alike e b {t} {u} q p = ap (places_at p.address) (go p.task)
  where
    go : (k : Task) → code_contents_by e t p.address k ≡ code_contents_by e u p.address k
    go skipped = refl
    go end = refl
    go (org v) = refl
    go no_org = refl
    go label_only = refl
    go (instruction i) = rw (b t u (find_alike q) p.address i)
    go (value n v) = refl
    go (space n) = refl
