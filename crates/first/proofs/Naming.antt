-- Labels recorded one after another: what one leaves, and what two leave. Assumes nothing.
use Rattle.std.specs.Prelude.{Option, None, Some, Result, Ok, Err, IfErr}
use mathlib.Core.Path.{◌≡◌, refl, sym, ap, ◌∙◌}
use mathlib.Core.Bool.{Bool, true, false, false≢true}
use mathlib.Core.List.{List, [], ◌∷◌, ◌++◌, map}
use Prim.Native.Nat.{ℕ, suc, ◌+◌, ◌-◌, ◌≤◌}
use native.Mathlib.Nat.{zero-add}
use native.Mathlib.Omega.{arith}
use lib.ListN.{length, drop}
use lib.Seq.{drop-drop}
use Rattle.rules.specs.Text.{Text, same}
use Rattle.rules.specs.Line.{SourceLine, Name}
use Rattle.rules.specs.Label.{Label, Table, find, recorded, has_room, label_of, record_all}
use Rattle.text.specs.declared.Span.{Span}
use Rattle.text.specs.Breaks.{line_number}
use Rattle.label.specs.Table.{cell_of}
use Rattle.label.specs.Record.{span_label, span_name, cells_with}
use Rattle.label.specs.Labelled.{Labelled}
use Rattle.label.proofs.Record.{past_with}
use Rattle.line.specs.Line.{name_at, name_from}
use Rattle.first.specs.Stopped.{record_some}
use Rattle.first.specs.Pass.{with_table, Unchanged}
use Rattle.first.specs.Names.{Grown, at_start, OnLine, no_name, and_name, all_recorded, some_recorded}

-- ---- recording by the rules
-- by whether there is room
module _ (l : SourceLine) (a : ℕ) (n : Name) (ns : List Name) (t : Table) where
  module _ (e : has_room (find n.text t) t ≡ true) where
    record_room : record_all l a (n ∷ ns) t ≡ record_all l a ns (recorded (label_of l a n) t)
    unfolding record_all
    record_room = rw (e, record_all)

    pub some_room : record_some l a (n ∷ ns) t ≡ record_some l a ns (recorded (label_of l a n) t)
    unfolding record_some
    some_room = rw (e, record_some)

  module _ (e : has_room (find n.text t) t ≡ false) where
    record_full : record_all l a (n ∷ ns) t ≡ None
    unfolding record_all
    record_full = rw (e, record_all)

    pub some_full : record_some l a (n ∷ ns) t ≡ t
    unfolding record_some
    some_full = rw (e, record_some)

-- labels that are all recorded are those recorded as far as there is room
pub record_some_lem : (l : SourceLine) (a : ℕ) (ns : List Name) (t t' : Table) → record_all l a ns t ≡ Some t' → record_some l a ns t ≡ t'
unfolding record_all record_some
record_some_lem l a [] t t' e = cc
record_some_lem l a (n ∷ ns) t t' e = go (has_room (find n.text t) t) refl (record_some_lem l a ns (recorded (label_of l a n) t) t')
  where
    go : (y : Bool) → has_room (find n.text t) t ≡ y
        → (record_all l a ns (recorded (label_of l a n) t) ≡ Some t' → record_some l a ns (recorded (label_of l a n) t) ≡ t')
        → record_some l a (n ∷ ns) t ≡ t'
    go true f ih = some_room l a n ns t f ∙ ih (sym (record_room l a n ns t f) ∙ e)
    go false f ih = let c = sym (record_full l a n ns t f) ∙ e in absurd (false≢true cc)

-- a line's labels recorded, and the same with their starts counted in the source
module _ (l : SourceLine) (a : ℕ) where
  abbrev whole : SourceLine
  whole = at_start l.number

  abbrev moved : List Name → List Name
  moved ns = map (name_from l.start) ns

  moved_label : (n : Name) → label_of whole a (name_from l.start n) ≡ label_of l a n
  moved_label n = rw (zero-add (l.start + n.start))

  pub record_from : (ns : List Name) (t : Table) → record_all (at_start l.number) a (map (name_from l.start) ns) t ≡ record_all l a ns t
  unfolding record_all
  record_from [] t = refl
  record_from (n ∷ ns) t = go (has_room (find n.text t) t) refl (record_from ns (recorded (label_of l a n) t))
    where
      go : (y : Bool) → has_room (find n.text t) t ≡ y → record_all whole a (moved ns) (recorded (label_of l a n) t) ≡ record_all l a ns (recorded (label_of l a n) t)
          → record_all whole a (moved (n ∷ ns)) t ≡ record_all l a (n ∷ ns) t
      go true e ih =
          record_room whole a (name_from l.start n) (moved ns) t e ∙ ap (λ (x : Label). record_all whole a (moved ns) (recorded x t)) (moved_label n)
          ∙ ih ∙ sym (record_room l a n ns t e)
      go false e ih = record_full whole a (name_from l.start n) (moved ns) t e ∙ sym (record_full l a n ns t e)

  pub some_from : (ns : List Name) (t : Table) → record_some (at_start l.number) a (map (name_from l.start) ns) t ≡ record_some l a ns t
  unfolding record_some
  some_from [] t = refl
  some_from (n ∷ ns) t = go (has_room (find n.text t) t) refl (some_from ns (recorded (label_of l a n) t))
    where
      go : (y : Bool) → has_room (find n.text t) t ≡ y → record_some whole a (moved ns) (recorded (label_of l a n) t) ≡ record_some l a ns (recorded (label_of l a n) t)
          → record_some whole a (moved (n ∷ ns)) t ≡ record_some l a (n ∷ ns) t
      go true e ih =
          some_room whole a (name_from l.start n) (moved ns) t e ∙ ap (λ (x : Label). record_some whole a (moved ns) (recorded x t)) (moved_label n)
          ∙ ih ∙ sym (some_room l a n ns t e)
      go false e ih = some_full whole a (name_from l.start n) (moved ns) t e ∙ sym (some_full l a n ns t e)

-- ---- recording adds at most one label each
pub recorded_most : (x : Label) (t : Table) → length (recorded x t) ≤ suc (length t)
unfolding recorded
recorded_most x [] = omega arith
recorded_most x (l ∷ t) = go (same x.name l.name) refl (recorded_most x t)
  where
    go : (y : Bool) → same x.name l.name ≡ y → length (recorded x t) ≤ suc (length t) → length (recorded x (l ∷ t)) ≤ suc (length (l ∷ t))
    go true e ih = rw (e, recorded) (omega arith)
    go false e ih = rw (e, recorded) (omega arith)

-- and takes none away
recorded_more : (x : Label) (t : Table) → length t ≤ length (recorded x t)
unfolding recorded
recorded_more x [] = omega arith
recorded_more x (l ∷ t) = go (same x.name l.name) refl (recorded_more x t)
  where
    go : (y : Bool) → same x.name l.name ≡ y → length t ≤ length (recorded x t) → length (l ∷ t) ≤ length (recorded x (l ∷ t))
    go true e ih = rw (e, recorded) (omega arith)
    go false e ih = rw (e, recorded) (omega arith)

pub some_most : (l : SourceLine) (a : ℕ) (ns : List Name) (t : Table) → length (record_some l a ns t) ≤ length t + length ns
unfolding record_some
some_most l a [] t = omega arith
some_most l a (n ∷ ns) t = go (has_room (find n.text t) t) refl (some_most l a ns (recorded (label_of l a n) t))
  where
    go : (y : Bool) → has_room (find n.text t) t ≡ y → length (record_some l a ns (recorded (label_of l a n) t)) ≤ length (recorded (label_of l a n) t) + length ns
        → length (record_some l a (n ∷ ns) t) ≤ length t + length (n ∷ ns)
    go true e ih = rw (some_room l a n ns t e) (omega (arith, recorded_most (label_of l a n) t))
    go false e ih = rw (some_full l a n ns t e) (omega arith)

-- labels of the same source, with the same room
pub same_labels : (labels labels' : Labelled) {t : Table} → labels'.source ≡ labels.source → labels'.room ≡ labels.room → labels'.table ≡ t → labels' ≡ with_table t labels'.cells labels
same_labels labels labels' s r t = rw (← s, ← r, ← t) refl

-- ---- the cells past the rows
-- a slice unchanged after m places is so after more
past_more : (m n : ℕ) (xs ys : List ℕ) → m ≤ n → drop m xs ≡ drop m ys → drop n xs ≡ drop n ys
past_more m n xs ys h e =
    let k : m + (n - m) ≡ n = omega arith in
    rw (← k, ← drop-drop (n - m) m xs, ← drop-drop (n - m) m ys, e)

pub unchanged_more : (m n : ℕ) (xs ys zs : List ℕ) → m ≤ n → Unchanged m xs ys → Unchanged n ys zs → Unchanged n xs zs
unchanged_more m n xs ys zs h u v = record { long = v.long ∙ u.long; past = v.past ∙ past_more m n ys xs h u.past }

pub grown_same : (labels : Labelled) → Grown labels labels
grown_same labels = record { more = omega arith; cells = record { long = refl; past = refl } }

pub grown_then : {a b c : Labelled} → Grown a b → Grown b c → Grown a c
grown_then {a} {b} {c} g h =
    record {
      more = omega (arith, g.more, h.more);
      cells = unchanged_more (cell_of (length b.table)) (cell_of (length c.table)) a.cells b.cells c.cells (omega (arith, h.more)) g.cells h.cells;
    }

pub grown_by : (a b : Labelled) (start end address : ℕ) → b.table ≡ recorded (span_label a.source start end address) a.table
    → b.cells ≡ cells_with a.source a.table a.cells start end address → Grown a b
grown_by a b start end address t c =
    let p = past_with a.source a.table a.cells start end address in
    record { more = rw t (recorded_more (span_label a.source start end address) a.table); cells = rw (t, c) (record { long = p.long; past = p.past }) }

-- what is not accepted is refused
pub not_ok : {A B P : Type 0} (r : Result A B) → ((x : A) → r ≡ Ok x → ⊥) → IfErr r (λ _. P) → P
not_ok (Ok x) n p = absurd (n x refl)
not_ok (Err e) n p = p

-- ---- what the code records
on_first : {source : Text} {k : ℕ} {n : Name} {ns : List Name} → OnLine source k (n ∷ ns) → line_number source n.start ≡ k
on_first (and_name e o) = e

-- one label, that stands on line k
module _ (source : Text) (s : Span) (k a : ℕ) (t : Table) (on : OnLine source k (name_at source s ∷ [])) where
  -- its start tells its line
  by_start : span_label source s.start s.end a ≡ label_of (at_start k) a (name_at source s)
  by_start = rw (on_first on, zero-add s.start)

  module _ (e : has_room (find (span_name source s.start s.end) t) t ≡ true) {u : Table} (w : u ≡ recorded (span_label source s.start s.end a) t) where
    now : u ≡ recorded (label_of (at_start k) a (name_at source s)) t
    now = w ∙ ap (λ (x : Label). recorded x t) by_start

    pub one_recorded : record_all (at_start k) a (name_at source s ∷ []) t ≡ Some u
    unfolding record_all
    one_recorded = record_room (at_start k) a (name_at source s) [] t e ∙ ap Some (sym now)

    pub one_now : u ≡ record_some (at_start k) a (name_at source s ∷ []) t
    unfolding record_some
    one_now = now ∙ sym (some_room (at_start k) a (name_at source s) [] t e)

  module _ (e : has_room (find (span_name source s.start s.end) t) t ≡ false) where
    pub one_full : record_all (at_start k) a (name_at source s ∷ []) t ≡ None
    one_full = record_full (at_start k) a (name_at source s) [] t e

    pub one_kept : {u : Table} → u ≡ t → u ≡ record_some (at_start k) a (name_at source s ∷ []) t
    one_kept d = d ∙ sym (some_full (at_start k) a (name_at source s) [] t e)

-- labels of a line, and then others
on_front : {source : Text} {k : ℕ} (ns ms : List Name) → OnLine source k (ns ++ ms) → OnLine source k ns
on_front [] ms on = no_name
on_front (n ∷ ns) ms (and_name e o) = and_name e (on_front ns ms o)

on_rest : {source : Text} {k : ℕ} (ns ms : List Name) → OnLine source k (ns ++ ms) → OnLine source k ms
on_rest [] ms on = on
on_rest (n ∷ ns) ms (and_name e o) = on_rest ns ms o

all_both : (l : SourceLine) (a : ℕ) (ns ms : List Name) (t u : Table) → record_all l a ns t ≡ Some u → record_all l a (ns ++ ms) t ≡ record_all l a ms u
unfolding record_all
all_both l a [] ms t u e = ap (record_all l a ms) cc
all_both l a (n ∷ ns) ms t u e = go (has_room (find n.text t) t) refl (all_both l a ns ms (recorded (label_of l a n) t) u)
  where
    go : (y : Bool) → has_room (find n.text t) t ≡ y
        → (record_all l a ns (recorded (label_of l a n) t) ≡ Some u → record_all l a (ns ++ ms) (recorded (label_of l a n) t) ≡ record_all l a ms u)
        → record_all l a (n ∷ ns ++ ms) t ≡ record_all l a ms u
    go true f ih = record_room l a n (ns ++ ms) t f ∙ ih (sym (record_room l a n ns t f) ∙ e)
    go false f ih = let c = sym (record_full l a n ns t f) ∙ e in absurd (false≢true cc)

some_both : (l : SourceLine) (a : ℕ) (ns ms : List Name) (t u : Table) → record_all l a ns t ≡ Some u → record_some l a (ns ++ ms) t ≡ record_some l a ms u
unfolding record_all record_some
some_both l a [] ms t u e = ap (record_some l a ms) cc
some_both l a (n ∷ ns) ms t u e = go (has_room (find n.text t) t) refl (some_both l a ns ms (recorded (label_of l a n) t) u)
  where
    go : (y : Bool) → has_room (find n.text t) t ≡ y
        → (record_all l a ns (recorded (label_of l a n) t) ≡ Some u → record_some l a (ns ++ ms) (recorded (label_of l a n) t) ≡ record_some l a ms u)
        → record_some l a (n ∷ ns ++ ms) t ≡ record_some l a ms u
    go true f ih = some_room l a n (ns ++ ms) t f ∙ ih (sym (record_room l a n ns t f) ∙ e)
    go false f ih = let c = sym (record_full l a n ns t f) ∙ e in absurd (false≢true cc)

none_both : (l : SourceLine) (a : ℕ) (ns ms : List Name) (t : Table) → record_all l a ns t ≡ None
    → (record_all l a (ns ++ ms) t ≡ None) × (record_some l a (ns ++ ms) t ≡ record_some l a ns t)
unfolding record_all record_some
none_both l a [] ms t e = absurd (false≢true cc)
none_both l a (n ∷ ns) ms t e = go (has_room (find n.text t) t) refl (none_both l a ns ms (recorded (label_of l a n) t))
  where
    go : (y : Bool) → has_room (find n.text t) t ≡ y
        → (record_all l a ns (recorded (label_of l a n) t) ≡ None
        → (record_all l a (ns ++ ms) (recorded (label_of l a n) t) ≡ None) × (record_some l a (ns ++ ms) (recorded (label_of l a n) t) ≡ record_some l a ns (recorded (label_of l a n) t)))
        → (record_all l a (n ∷ ns ++ ms) t ≡ None) × (record_some l a (n ∷ ns ++ ms) t ≡ record_some l a (n ∷ ns) t)
    go true f ih =
        let h = ih (sym (record_room l a n ns t f) ∙ e) in
        (record_room l a n (ns ++ ms) t f ∙ h.0, some_room l a n (ns ++ ms) t f ∙ h.1 ∙ sym (some_room l a n ns t f))
    go false f ih = (record_full l a n (ns ++ ms) t f, some_full l a n (ns ++ ms) t f ∙ sym (some_full l a n ns t f))

-- what recording the first labels said, and what recording the others says then
module _ {source : Text} (ns ms : List Name) (a : ℕ) (t : Table) {k : ℕ} (on : OnLine source k (ns ++ ms)) where
  pub none_first : ((k : ℕ) → OnLine source k ns → all_recorded t ns a k ≡ None) → all_recorded t (ns ++ ms) a k ≡ None
  none_first f = (none_both (at_start k) a ns ms t (f k (on_front ns ms on))).0

  pub some_first : ((k : ℕ) → OnLine source k ns → all_recorded t ns a k ≡ None) → {u : Table} → ((k : ℕ) → OnLine source k ns → u ≡ some_recorded t ns a k)
      → u ≡ some_recorded t (ns ++ ms) a k
  some_first f g = g k (on_front ns ms on) ∙ sym (none_both (at_start k) a ns ms t (f k (on_front ns ms on))).1

  module _ {u : Table} (f : (k : ℕ) → OnLine source k ns → all_recorded t ns a k ≡ Some u) where
    pub all_then : {o : Option Table} → ((k : ℕ) → OnLine source k ms → all_recorded u ms a k ≡ o) → all_recorded t (ns ++ ms) a k ≡ o
    all_then g = all_both (at_start k) a ns ms t u (f k (on_front ns ms on)) ∙ g k (on_rest ns ms on)

    pub some_then : {v : Table} → ((k : ℕ) → OnLine source k ms → v ≡ some_recorded u ms a k) → v ≡ some_recorded t (ns ++ ms) a k
    some_then g = g k (on_rest ns ms on) ∙ sym (some_both (at_start k) a ns ms t u (f k (on_front ns ms on)))
