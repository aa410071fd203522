-- The label table holds the names recorded, each once; a line's labels overflow it exactly where one is new and the table is full.
-- Assumes nothing.
use Rattle.std.specs.Prelude.{Option, None, Some}
use Prim.Native.Nat.{ℕ, suc, ◌<◌, ◌≤◌}
use mathlib.Core.Path.{◌≡◌, refl, sym, ap, ◌∙◌}
use mathlib.Core.Bool.{Bool, true, false, ◌||◌, cond}
use mathlib.Core.List.{List, [], ◌∷◌, map}
use native.Mathlib.Omega.{arith}
use borrow.Author.Tests.{ltb-true, ltb-false, eqb-true}
use lib.ListN.{length}
use lib.Dec.{eqb}
use Rattle.rules.specs.Limits.{max_labels}
use Rattle.rules.specs.Text.{Text, same}
use Rattle.rules.specs.Line.{SourceLine, Name}
use Rattle.rules.specs.Label.{Label, Table, find, recorded, has_room, label_of, record_all}
use Rattle.rules.specs.Encode.{is_some}
use Rattle.promises.specs.Refusals.{on_top, is_among, distinct, TooMany, now, later}
use Rattle.promises.proofs.Compared.{clash}

-- names that compare the same are equal
same_equal : (s t : Text) → same s t ≡ true → s ≡ t
unfolding same
same_equal [] [] e = refl
same_equal [] (b ∷ t) e = clash cc
same_equal (a ∷ s) [] e = clash cc
same_equal (a ∷ s) (b ∷ t) e = go (eqb a b) refl (same_equal s t)
  where
    go : (y : Bool) → eqb a b ≡ y → (same s t ≡ true → s ≡ t) → a ∷ s ≡ b ∷ t
    go true f ih = let u = eqb-true a b f in let v = ih (rw (f, same) at e) in cc
    go false f ih = let v : false ≡ true = rw (f, same) at e in clash cc

-- a record of x keeps the names, and adds that of x
find_recorded : (n : Text) (x : Label) (t : Table) → is_some (find n (recorded x t)) ≡ (same n x.name || is_some (find n t))
unfolding find recorded is_some
find_recorded n x [] = go (same n x.name) refl
  where
    go : (y : Bool) → same n x.name ≡ y → is_some (find n (x ∷ [])) ≡ (same n x.name || false)
    go true e = rw (e, find)
    go false e = rw (e, find)
find_recorded n x (l ∷ t) = go (same x.name l.name) refl (same n x.name) refl (same n l.name) refl (find_recorded n x t)
  where
    go : (z : Bool) → same x.name l.name ≡ z → (y : Bool) → same n x.name ≡ y → (w : Bool) → same n l.name ≡ w
        → is_some (find n (recorded x t)) ≡ (same n x.name || is_some (find n t))
        → is_some (find n (recorded x (l ∷ t))) ≡ (same n x.name || is_some (find n (l ∷ t)))
    go true e true f w g ih = rw (e, recorded, f, find)
    go true e false f true g ih = let u = same_equal x.name l.name e in let v : true ≡ false = cc in clash cc
    go true e false f false g ih = rw (e, recorded, f, g, find, find)
    go false e true f true g ih = rw (e, recorded, f, g, find)
    go false e false f true g ih = rw (e, recorded, f, g, find)
    go false e y f false g ih = rw (e, recorded, g, find) ih

-- a name that the table knows takes no room
pub length_recorded : (x : Label) (t : Table) → length (recorded x t) ≡ cond (is_some (find x.name t)) (length t) (suc (length t))
unfolding find recorded is_some
length_recorded x [] = refl
length_recorded x (l ∷ t) = go (same x.name l.name) refl (is_some (find x.name t)) refl (length_recorded x t)
  where
    go : (z : Bool) → same x.name l.name ≡ z → (y : Bool) → is_some (find x.name t) ≡ y
        → length (recorded x t) ≡ cond (is_some (find x.name t)) (length t) (suc (length t))
        → length (recorded x (l ∷ t)) ≡ cond (is_some (find x.name (l ∷ t))) (suc (length t)) (suc (suc (length t)))
    go true e y f ih = rw (e, recorded, find)
    go false e true f ih = rw (e, recorded, find, f) (ap suc (rw f at ih))
    go false e false f ih = rw (e, recorded, find, f) (ap suc (rw f at ih))

-- the table t holds the names ns, each once
pub record Holds (t : Table) (ns : List Text) : Type 0 where
  pub count : length t ≡ distinct ns
  pub knows : (n : Text) → is_some (find n t) ≡ is_among n ns

-- no name, one more name
pub holds_none : Holds [] []
unfolding find is_some is_among distinct
holds_none = record { count = refl; knows = λ n. refl }

holds_more : (x : Label) (t : Table) (ns : List Text) → Holds t ns → Holds (recorded x t) (x.name ∷ ns)
unfolding is_among distinct
holds_more x t ns h =
    record {
      count = length_recorded x t ∙ rw (h.knows x.name, h.count);
      knows = λ n. find_recorded n x t ∙ rw (h.knows n);
    }

-- the labels of a line: one too many, or all recorded
data Recorded (ms ns : List Text) : Option Table → Type 0 where
  overflow : TooMany ms ns → Recorded ms ns None
  fits : {t : Table} → ¬ TooMany ms ns → Holds t (on_top ms ns) → Recorded ms ns (Some t)

-- what the test for room says of a label: it is new and the table is full, or a new one has room
pub full_new : (o : Option ℕ) (t : Table) → has_room o t ≡ false → (is_some o ≡ false) × (max_labels ≤ length t)
unfolding has_room is_some
full_new None t e = (refl, ltb-false (length t) max_labels e)
full_new (Some a) t e = clash cc

pub new_room : (o : Option ℕ) (t : Table) → has_room o t ≡ true → is_some o ≡ false → length t < max_labels
unfolding has_room is_some
new_room None t e f = ltb-true (length t) max_labels e
new_room (Some a) t e f = clash cc

-- recorded where there is room, at most as many labels as there may be stay so many
pub recorded_room : (x : Label) (t : Table) (o : Option ℕ) → find x.name t ≡ o → length t ≤ max_labels → has_room o t ≡ true → length (recorded x t) ≤ max_labels
unfolding is_some
recorded_room x t None e h r = rw (length_recorded x t, e) (new_room None t r refl)
recorded_room x t (Some a) e h r = rw (length_recorded x t, e) h

-- a name that has room: if one is too many, it is one after it
later_only : (m : Text) (ms ns : List Text) (o : Option Table) → (is_among m ns ≡ false → distinct ns < max_labels)
    → Recorded ms (m ∷ ns) o → Recorded (m ∷ ms) ns o
unfolding on_top
later_only m ms ns None k (overflow v) = overflow (later v)
later_only m ms ns (Some t) k (fits d h) = fits go h
  where
    go : TooMany (m ∷ ms) ns → ⊥
    go (now e f) = let l = k e in omega arith
    go (later v) = d v

-- a line without labels never holds one too many
pub no_names : (ns : List Text) → ¬ TooMany [] ns
no_names ns = elim [ ]

-- the labels of a line, recorded by the definition
records : (l : SourceLine) (a : ℕ) (ms : List Name) (t : Table) (ns : List Text) → Holds t ns → Recorded (map (λ n. n.text) ms) ns (record_all l a ms t)
unfolding record_all on_top
records l a [] t ns h = fits (no_names ns) h
records l a (m ∷ ms) t ns h = go (has_room (find m.text t) t) refl (λ u. records l a ms u (m.text ∷ ns))
  where
    x : Label
    x = label_of l a m

    go : (y : Bool) → has_room (find m.text t) t ≡ y
        → ((u : Table) → Holds u (m.text ∷ ns) → Recorded (map (λ n. n.text) ms) (m.text ∷ ns) (record_all l a ms u))
        → Recorded (map (λ n. n.text) (m ∷ ms)) ns (record_all l a (m ∷ ms) t)
    go true e ih = rw (e, record_all) (later_only m.text (map (λ n. n.text) ms) ns (record_all l a ms (recorded x t)) spare (ih (recorded x t) (holds_more x t ns h)))
      where
        spare : is_among m.text ns ≡ false → distinct ns < max_labels
        spare f = rw h.count at (new_room (find m.text t) t e (h.knows m.text ∙ f))
    go false e ih = rw (e, record_all) (overflow (now (sym (h.knows m.text) ∙ (full_new (find m.text t) t e).0) (rw h.count at (full_new (find m.text t) t e).1)))

-- so where they are not recorded one is too many, and else none is, and the table holds them
module _ (l : SourceLine) (a : ℕ) (ms : List Name) (t : Table) (ns : List Text) (h : Holds t ns) where
  pub not_recorded : record_all l a ms t ≡ None → TooMany (map (λ n. n.text) ms) ns
  not_recorded e = go (rw e at (records l a ms t ns h))
    where
      go : Recorded (map (λ n. n.text) ms) ns None → TooMany (map (λ n. n.text) ms) ns
      go (overflow v) = v

  pub all_recorded : (t' : Table) → record_all l a ms t ≡ Some t' → (¬ TooMany (map (λ n. n.text) ms) ns) × Holds t' (on_top (map (λ n. n.text) ms) ns)
  all_recorded t' e = go t' (rw e at (records l a ms t ns h))
    where
      go : (u : Table) → Recorded (map (λ n. n.text) ms) ns (Some u) → (¬ TooMany (map (λ n. n.text) ms) ns) × Holds u (on_top (map (λ n. n.text) ms) ns)
      go u (fits d k) = (d, k)
