-- The first pass under a shift: an accepted pass from base b is the pass from base 0, each address b higher. Assumes nothing.
use Rattle.std.specs.Prelude.{Option, None, Some, option_map}
use Prim.Native.Nat.{ℕ, ◌+◌}
use mathlib.Core.Path.{◌≡◌, refl, ap}
use mathlib.Core.Bool.{Bool, true, false, false≢true}
use mathlib.Core.List.{List, [], ◌∷◌}
use native.Mathlib.Nat.{add_assoc, zero-add}
use native.Mathlib.Omega.{arith}
use borrow.Author.Tests.{ltb-true, lt-ltb}
use lib.Dec.{ltb}
use lib.ListN.{length-map}
use Rattle.rules.specs.Limits.{address_limit}
use Rattle.rules.specs.Text.{Text, same}
use Rattle.rules.specs.Line.{SourceLine, Name, Task, skipped, end, org, no_org, label_only, instruction, value, space, Line, line_of}
use Rattle.rules.specs.Label.{Label, Table, find, recorded, has_room, label_of, record_all}
use Rattle.rules.specs.Answer.{Answer, accepted, refused, and_then}
use Rattle.rules.specs.Assemble.{Sizes, Pass, address_after, is_end, Step, halt, full, next, leaving, step_by, putting, first_pass_by}
use Rattle.promises.specs.Lawful.{shift_put, shift_pass, shift_label, shift_table}

-- what a line does, each address b higher
unfoldable pub shift_step : ℕ → Step → Step
shift_step b halt = halt
shift_step b full = full
shift_step b (next a t) = next (b + a) (shift_table b t)

-- a label is found b higher
pub find_shift : (b : ℕ) (n : Text) (t : Table) → find n (shift_table b t) ≡ option_map (λ a. b + a) (find n t)
unfolding find shift_label
find_shift b n [] = refl
find_shift b n (l ∷ t) = go (same n l.name) refl (find_shift b n t)
  where
    go : (x : Bool) → same n l.name ≡ x → find n (shift_table b t) ≡ option_map (λ a. b + a) (find n t)
        → find n (shift_table b (l ∷ t)) ≡ option_map (λ a. b + a) (find n (l ∷ t))
    go true e ih = rw (e, find)
    go false e ih = rw (e, find) ih

-- a label is recorded b higher
recorded_shift : (b : ℕ) (x : Label) (t : Table) → recorded (shift_label b x) (shift_table b t) ≡ shift_table b (recorded x t)
unfolding recorded shift_label
recorded_shift b x [] = refl
recorded_shift b x (l ∷ t) = go (same x.name l.name) refl (recorded_shift b x t)
  where
    go : (y : Bool) → same x.name l.name ≡ y → recorded (shift_label b x) (shift_table b t) ≡ shift_table b (recorded x t)
        → recorded (shift_label b x) (shift_table b (l ∷ t)) ≡ shift_table b (recorded x (l ∷ t))
    go true e ih = rw (e, recorded)
    go false e ih = rw (e, recorded) (ap (λ r. shift_label b l ∷ r) ih)

-- there is room where there was
has_room_shift : (b : ℕ) (o : Option ℕ) (t : Table) → has_room (option_map (λ a. b + a) o) (shift_table b t) ≡ has_room o t
unfolding has_room
has_room_shift b None t = rw length-map
has_room_shift b (Some a) t = refl

-- a line's labels are recorded b higher, and there are too many where there were
record_all_shift : (b : ℕ) (l : SourceLine) (a : ℕ) (ns : List Name) (t : Table) → record_all l (b + a) ns (shift_table b t) ≡ option_map (shift_table b) (record_all l a ns t)
unfolding record_all shift_label
record_all_shift b l a [] t = refl
record_all_shift b l a (n ∷ ns) t = go (has_room (find n.text t) t) refl (record_all_shift b l a ns _)
  where
    x : Label
    x = label_of l a n

    go : (y : Bool) → has_room (find n.text t) t ≡ y
        → record_all l (b + a) ns (shift_table b (recorded x t)) ≡ option_map (shift_table b) (record_all l a ns (recorded x t))
        → record_all l (b + a) (n ∷ ns) (shift_table b t) ≡ option_map (shift_table b) (record_all l a (n ∷ ns) t)
    go true e ih = rw (find_shift b n.text t, has_room_shift b (find n.text t) t, e, recorded_shift b x t, record_all) ih
    go false e ih = rw (find_shift b n.text t, has_room_shift b (find n.text t) t, e, record_all)

-- the next address is b higher
address_shift : (z : Sizes) (b a : ℕ) (k : Task) → address_after z b (b + a) k ≡ b + address_after z 0 a k
unfolding address_after
address_shift z b a skipped = refl
address_shift z b a end = refl
address_shift z b a (org v) = rw zero-add
address_shift z b a no_org = refl
address_shift z b a label_only = refl
address_shift z b a (instruction i) = add_assoc b a (z i)
address_shift z b a (value n v) = add_assoc b a n
address_shift z b a (space n) = add_assoc b a n

leaving_shift : (b a : ℕ) (o : Option Table) → leaving (b + a) (option_map (shift_table b) o) ≡ shift_step b (leaving a o)
unfolding leaving shift_step
leaving_shift b a None = refl
leaving_shift b a (Some t) = refl

-- a line does b higher what it does from base 0
step_shift : (z : Sizes) (b a : ℕ) (t : Table) (l : SourceLine) (r : Line) → step_by z b (b + a) (shift_table b t) l r ≡ shift_step b (step_by z 0 a t l r)
unfolding step_by shift_step
step_shift z b a t l r = go (is_end r.task) refl
  where
    go : (x : Bool) → is_end r.task ≡ x → step_by z b (b + a) (shift_table b t) l r ≡ shift_step b (step_by z 0 a t l r)
    go true e = rw (step_by, e)
    go false e =
        rw (step_by, e, address_shift z b a r.task, record_all_shift b l a r.names t)
        (leaving_shift b (address_after z 0 a r.task) (record_all l a r.names t))

-- `and_then` twice
and_then_assoc : {A B C : Type 0} (m : Answer A) (f : A → Answer B) (g : B → Answer C) → and_then (and_then m f) g ≡ and_then m (λ a. and_then (f a) g)
unfolding and_then
and_then_assoc (accepted a) f g = refl
and_then_assoc (refused n p) f g = refl

-- where what follows the pass from base b is accepted, the same follows the pass from base 0, shifted:
-- stated with what follows, f, since `assemble` has it so, and since a line's own put is what follows the lines after it
module _ {A : Type 0} (z : Sizes) (b : ℕ) (y : A) where
  abbrev Shifts : ℕ → Table → List SourceLine → (Pass → Answer A) → Type 0
  Shifts a t ls f = and_then (first_pass_by z b (b + a) (shift_table b t) ls) f ≡ accepted y → and_then (first_pass_by z 0 a t ls) (λ p. f (shift_pass b p)) ≡ accepted y

  pub pass_shift : (a : ℕ) (t : Table) (ls : List SourceLine) (f : Pass → Answer A) → Shifts a t ls f
  unfolding first_pass_by and_then putting shift_pass shift_put shift_step
  pass_shift a t [] f h = h
  pass_shift a t (l ∷ ls) f h = go (step_by z 0 a t l (line_of l.text)) refl (λ a' t'. pass_shift a' t' ls)
    where
      onward : (a' : ℕ) (t' : Table) → step_by z 0 a t l (line_of l.text) ≡ next a' t' → ((g : Pass → Answer A) → Shifts a' t' ls g)
          → (k : Bool) → ltb (b + a') address_limit ≡ k → and_then (first_pass_by z 0 a t (l ∷ ls)) (λ p. f (shift_pass b p)) ≡ accepted y
      onward a' t' e ih true i =
          let j = lt-ltb a' address_limit (let k = ltb-true (b + a') address_limit i in omega arith) in
          rw (e, j, first_pass_by, and_then_assoc)
          (ih (λ p. and_then (putting (b + a) (line_of l.text).task p) f) (rw (step_shift z, e, i, first_pass_by, and_then_assoc) at h))
      onward a' t' e ih false i = let c = rw (step_shift z, e, i, first_pass_by) at h in absurd (false≢true cc)

      go : (s : Step) → step_by z 0 a t l (line_of l.text) ≡ s → ((a' : ℕ) (t' : Table) (g : Pass → Answer A) → Shifts a' t' ls g)
          → and_then (first_pass_by z 0 a t (l ∷ ls)) (λ p. f (shift_pass b p)) ≡ accepted y
      go halt e ih = rw (e, first_pass_by) (rw (step_shift z, e, first_pass_by) at h)
      go full e ih = let c = rw (step_shift z, e, first_pass_by) at h in absurd (false≢true cc)
      go (next a' t') e ih = onward a' t' e (ih a' t') (ltb (b + a') address_limit) refl
