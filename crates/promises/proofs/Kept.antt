-- A table into which labels are recorded one after another, each starting later than those before, holds the last of each name.
-- Assumes nothing.
use Rattle.std.specs.Prelude.{Some}
use Prim.Native.Nat.{ℕ, suc, ◌+◌, ◌<◌, ◌≤◌}
use mathlib.Core.Path.{◌≡◌, refl, sym, ap, ◌∙◌}
use mathlib.Core.Logic.{◌≢◌, ◌⊎◌, inl, inr}
use mathlib.Core.Bool.{Bool, true, false}
use mathlib.Core.List.{List, [], ◌∷◌, map}
use native.Mathlib.Omega.{arith}
use borrow.Author.Tests.{eq-eqb}
use lib.ListN.{length}
use Rattle.rules.specs.Text.{Text, same}
use Rattle.rules.specs.Line.{SourceLine, Name}
use Rattle.rules.specs.Label.{Label, Table, find, recorded, has_room, label_of, record_all}
use Rattle.rules.proofs.Names.{Rising, over, next}
use Rattle.promises.specs.Nearest.{In, head, tail}
use Rattle.promises.proofs.Compared.{clash}
use Rattle.promises.proofs.Same.{same_eq}

-- names that do not compare the same are not equal
pub same_self : (s : Text) → same s s ≡ true
unfolding same
same_self [] = refl
same_self (b ∷ s) = rw (eq-eqb b b refl, same) (same_self s)

pub not_same : (s t : Text) → same s t ≡ false → s ≢ t
not_same s t e f = let u : true ≡ false = sym (same_self s) ∙ ap (same s) f ∙ e in clash cc

-- no two labels of a table have one name
abbrev pub Unique : Table → Type 0
Unique [] = Unit {0}
Unique (l ∷ t) = ((m : Label) → In m t → m.name ≢ l.name) × Unique t

-- x recorded in the table t makes it u: x is in it, and what has another name
record Taken (x : Label) (t u : Table) : Type 0 where
  unique : Unique u
  has : In x u
  keeps : {y : Label} → In y t → y.name ≢ x.name → In y u
  is : {y : Label} → In y u → (y ≡ x) ⊎ (In y t × (y.name ≢ x.name))

taken : (x : Label) (t : Table) → Unique t → Taken x t (recorded x t)
unfolding recorded
taken x [] u = record { unique = ((λ m. elim [ ]), tt); has = head refl; keeps = λ i d. tail i; is = elim [ head e ↦ inl e | tail i ↦ elim i [ ] ] }
taken x (l ∷ t) u = go (same x.name l.name) refl (taken x t u.1)
  where
    go : (y : Bool) → same x.name l.name ≡ y → Taken x t (recorded x t) → Taken x (l ∷ t) (recorded x (l ∷ t))
    go true e ih = rw (e, recorded) (record { unique = (λ m i. rw f (u.0 m i), u.1); has = head refl; keeps = keeps; is = is })
      where
        f : x.name ≡ l.name
        f = same_eq x.name l.name e

        keeps : {y : Label} → In y (l ∷ t) → y.name ≢ x.name → In y (x ∷ t)
        keeps (head k) d = absurd (d (ap (λ (z : Label). z.name) k ∙ sym f))
        keeps (tail i) d = tail i

        is : {y : Label} → In y (x ∷ t) → (y ≡ x) ⊎ (In y (l ∷ t) × (y.name ≢ x.name))
        is (head k) = inl k
        is {y} (tail i) = inr (tail i, rw f (u.0 y i))
    go false e ih = rw (e, recorded) (record { unique = (apart, ih.unique); has = tail ih.has; keeps = keeps; is = is })
      where
        f : x.name ≢ l.name
        f = not_same x.name l.name e

        apart : (m : Label) → In m (recorded x t) → m.name ≢ l.name
        apart m i = on (ih.is i)
          where
            on : (m ≡ x) ⊎ (In m t × (m.name ≢ x.name)) → m.name ≢ l.name
            on (inl k) = rw k f
            on (inr j) = u.0 m j.0

        keeps : {y : Label} → In y (l ∷ t) → y.name ≢ x.name → In y (l ∷ recorded x t)
        keeps (head k) d = head k
        keeps (tail i) d = tail (ih.keeps i d)

        is : {y : Label} → In y (l ∷ recorded x t) → (y ≡ x) ⊎ (In y (l ∷ t) × (y.name ≢ x.name))
        is (head k) = inr (head k, rw k (λ g. f (sym g)))
        is {y} (tail i) = on (ih.is i)
          where
            on : (y ≡ x) ⊎ (In y t × (y.name ≢ x.name)) → (y ≡ x) ⊎ (In y (l ∷ t) × (y.name ≢ x.name))
            on (inl k) = inl k
            on (inr j) = inr (tail j.0, j.1)

-- of what P says to be recorded, x is the last of its name
pub record Last (P : Label → Type 0) (x : Label) : Type 0 where
  pub holds : P x
  pub latest : {y : Label} → P y → y.name ≡ x.name → y.start ≤ x.start

-- a table holds the last of what P says to be recorded, so some label of each name, all of which starts before b, each at another place
pub record Keeps (P : Label → Type 0) (b : ℕ) (t : Table) : Type 0 where
  pub unique : Unique t
  pub is : {x : Label} → In x t → Last P x
  pub has : {x : Label} → Last P x → In x t
  pub covers : {x : Label} → P x → (y : Label) × In y t × (y.name ≡ x.name)
  pub below : {x : Label} → P x → x.start < b
  pub one : {x y : Label} → P x → P y → x.start ≡ y.start → x ≡ y

pub keeps_by : (P Q : Label → Type 0) (b c : ℕ) (t : Table) → b ≤ c → ((x : Label) → P x → Q x) → ((x : Label) → Q x → P x) → Keeps P b t → Keeps Q c t
keeps_by P Q b c t l f g k =
    record {
      unique = k.unique;
      is = λ {x} i. let h = k.is i in record { holds = f x h.holds; latest = λ {y} q. h.latest (g y q) };
      has = λ {x} h. k.has (record { holds = g x h.holds; latest = λ {y} p. h.latest (f y p) });
      covers = λ {x} q. k.covers (g x q);
      below = λ {x} q. let h = k.below (g x q) in omega arith;
      one = λ {x} {y} q r. k.one (g x q) (g y r);
    }

-- one more record
keeps_one : (P : Label → Type 0) (b : ℕ) (t : Table) (x : Label) → b ≤ x.start → Keeps P b t → Keeps (λ y. P y ⊎ (y ≡ x)) (suc x.start) (recorded x t)
keeps_one P b t x l k = record { unique = r.unique; is = is; has = has; covers = covers; below = below; one = one }
  where
    r : Taken x t (recorded x t)
    r = taken x t k.unique

    early : {y z : Label} → P y → z ≡ x → y.start < z.start
    early {y} p e = let h = k.below p in rw e (omega arith)

    is : {y : Label} → In y (recorded x t) → Last (λ z. P z ⊎ (z ≡ x)) y
    is {y} i = go (r.is i)
      where
        go : (y ≡ x) ⊎ (In y t × (y.name ≢ x.name)) → Last (λ z. P z ⊎ (z ≡ x)) y
        go (inl e) = record { holds = inr e; latest = on }
          where
            on : {z : Label} → P z ⊎ (z ≡ x) → z.name ≡ y.name → z.start ≤ y.start
            on (inl p) f = let h = early p e in omega arith
            on (inr g) f = rw (e, g) (omega arith)
        go (inr j) = record { holds = inl (k.is j.0).holds; latest = on }
          where
            on : {z : Label} → P z ⊎ (z ≡ x) → z.name ≡ y.name → z.start ≤ y.start
            on (inl p) f = (k.is j.0).latest p f
            on (inr g) f = absurd (j.1 (sym f ∙ ap (λ (m : Label). m.name) g))

    has : {y : Label} → Last (λ z. P z ⊎ (z ≡ x)) y → In y (recorded x t)
    has {y} h = go h.holds
      where
        go : P y ⊎ (y ≡ x) → In y (recorded x t)
        go (inl p) =
            r.keeps (k.has (record { holds = p; latest = λ q. h.latest (inl q) }))
            (λ e. let u = h.latest (inr refl) (sym e) in let v = k.below p in omega arith)
        go (inr e) = rw e r.has

    covers : {y : Label} → P y ⊎ (y ≡ x) → (z : Label) × In z (recorded x t) × (z.name ≡ y.name)
    covers {y} (inl p) = let c = k.covers p in go c.0 c.1 c.2 (same c.0.name x.name) refl
      where
        go : (z : Label) → In z t → z.name ≡ y.name → (b : Bool) → same z.name x.name ≡ b → (z : Label) × In z (recorded x t) × (z.name ≡ y.name)
        go z i f true e = (x, r.has, sym (same_eq z.name x.name e) ∙ f)
        go z i f false e = (z, r.keeps i (not_same z.name x.name e), f)
    covers (inr e) = (x, r.has, ap (λ (z : Label). z.name) (sym e))

    below : {y : Label} → P y ⊎ (y ≡ x) → y.start < suc x.start
    below (inl p) = let h = k.below p in omega arith
    below (inr e) = rw e (omega arith)

    one : {y z : Label} → P y ⊎ (y ≡ x) → P z ⊎ (z ≡ x) → y.start ≡ z.start → y ≡ z
    one (inl p) (inl q) e = k.one p q e
    one (inl p) (inr g) e = let h = early p g in absurd (omega arith)
    one (inr f) (inl q) e = let h = early q f in absurd (omega arith)
    one (inr f) (inr g) e = f ∙ sym g

-- the names of a line
module _ (l : SourceLine) (a : ℕ) where
  pub keeps_all : {e : ℕ} (P : Label → Type 0) {ns : List Name} {c : ℕ} (b : ℕ) (t t' : Table) → b ≤ l.start + c → Rising l.text e c ns → record_all l a ns t ≡ Some t'
      → Keeps P b t → Keeps (λ y. P y ⊎ In y (map (label_of l a) ns)) (l.start + e) t'
  unfolding record_all
  keeps_all {e = e} P b t t' h (over r) f k =
      let g : t ≡ t' = cc in
      rw (← g) (keeps_by P (λ y. P y ⊎ In y []) b (l.start + e) t (omega arith) (λ x p. inl p) (λ x. elim [ inl p ↦ p | inr i ↦ absurd (nowhere i) ]) k)
    where
      nowhere : {y : Label} → In y [] → ⊥
      nowhere = elim [ ]
  keeps_all {e = e} P b t t' h (next {m = n} {ms = ns} r w q) f k = go (has_room (find n.text t) t) refl (λ c u v. keeps_all Q c u t' v q)
    where
      x : Label
      x = label_of l a n

      Q : Label → Type 0
      Q y = P y ⊎ (y ≡ x)

      forth : (y : Label) → Q y ⊎ In y (map (label_of l a) ns) → P y ⊎ In y (map (label_of l a) (n ∷ ns))
      forth y (inl (inl p)) = inl p
      forth y (inl (inr g)) = inr (head g)
      forth y (inr i) = inr (tail i)

      back : (y : Label) → P y ⊎ In y (map (label_of l a) (n ∷ ns)) → Q y ⊎ In y (map (label_of l a) ns)
      back y (inl p) = inl (inl p)
      back y (inr (head g)) = inl (inr g)
      back y (inr (tail i)) = inr i

      go : (y : Bool) → has_room (find n.text t) t ≡ y
          → ((c : ℕ) (u : Table) → c ≤ l.start + suc (n.start + length n.text) → record_all l a ns u ≡ Some t' → Keeps Q c u
          → Keeps (λ y. Q y ⊎ In y (map (label_of l a) ns)) (l.start + e) t')
          → Keeps (λ y. P y ⊎ In y (map (label_of l a) (n ∷ ns))) (l.start + e) t'
      go true g ih =
          keeps_by _ _ (l.start + e) (l.start + e) t' (omega arith) forth back
          (ih (suc x.start) (recorded x t) (omega arith) (rw (g, record_all) at f) (keeps_one P b t x (omega arith) k))
      go false g ih = let u = rw (g, record_all) at f in clash cc

-- a label of mapped names
pub mapped : (l : SourceLine) (a : ℕ) {y : Label} (ns : List Name) → In y (map (label_of l a) ns) → (n : Name) × In n ns × (y ≡ label_of l a n)
mapped l a (n ∷ ns) (head e) = (n, head refl, e)
mapped l a (n ∷ ns) (tail i) = let h = mapped l a ns i in (h.0, tail h.1, h.2)
mapped l a [] i = elim i [ ]

pub map_in : (l : SourceLine) (a : ℕ) {n : Name} {ns : List Name} → In n ns → In (label_of l a n) (map (label_of l a) ns)
map_in l a (head e) = head (ap (label_of l a) e)
map_in l a (tail i) = tail (map_in l a i)
