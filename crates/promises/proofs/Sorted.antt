-- The labels in the order in which they start: the same labels, and no other list of them is in that order. Assumes nothing.
use Rattle.std.specs.Prelude.{Some}
use Prim.Native.Nat.{ℕ, zero, suc, ◌<◌}
use mathlib.Core.Path.{◌≡◌, refl, sym, ap, ◌∙◌}
use mathlib.Core.Logic.{◌≢◌, ◌⊎◌, inl, inr}
use mathlib.Core.Bool.{Bool, true, false, cond}
use mathlib.Core.List.{List, [], ◌∷◌}
use native.Mathlib.Omega.{arith}
use borrow.Author.Tests.{ltb-true, ltb-false}
use lib.Dec.{ltb}
use lib.ListN.{length}
use Rattle.rules.specs.Label.{Label, Table}
use Rattle.requests.specs.Symbols.{put_in_order, in_order}
use Rattle.promises.specs.Nearest.{In, head, tail}
use Rattle.promises.specs.Symbols.{IsEntry}
use Rattle.promises.proofs.Compared.{clash}
use Rattle.promises.proofs.Kept.{Unique}

-- each starts before all that follow it
pub data Ascending : List Label → Type 0 where
  ended : Ascending []
  ahead : {x : Label} {l : List Label} → ((y : Label) → In y l → x.start < y.start) → Ascending l → Ascending (x ∷ l)

-- no two labels of a table start at one place
abbrev pub Apart : Table → Type 0
Apart [] = Unit {0}
Apart (l ∷ t) = ((m : Label) → In m t → m.start ≢ l.start) × Apart t

pub are_apart : (t : Table) → Unique t → ((x y : Label) → In x t → In y t → x.start ≡ y.start → x ≡ y) → Apart t
are_apart [] u f = tt
are_apart (l ∷ t) u f = ((λ m i e. u.0 m i (ap (λ (x : Label). x.name) (f m l (tail i) (head refl) e))), are_apart t u.1 (λ x y i j. f x y (tail i) (tail j)))

-- x put into l makes it u
record Put (x : Label) (l u : List Label) : Type 0 where
  is : {y : Label} → In y u → (y ≡ x) ⊎ In y l
  has : In x u
  keeps : {y : Label} → In y l → In y u
  long : length u ≡ suc (length l)

put : (x : Label) (l : List Label) → Put x l (put_in_order x l)
unfolding put_in_order
put x [] = record { is = elim [ head e ↦ inl e | tail i ↦ elim i [ ] ]; has = head refl; keeps = λ i. tail i; long = refl }
put x (m ∷ l) = go (ltb x.start m.start) (put x l)
  where
    go : (b : Bool) → Put x l (put_in_order x l) → Put x (m ∷ l) (cond b (x ∷ m ∷ l) (m ∷ put_in_order x l))
    go true p = record { is = elim [ head e ↦ inl e | tail i ↦ inr i ]; has = head refl; keeps = λ i. tail i; long = refl }
    go false p = record { is = is; has = tail p.has; keeps = keeps; long = ap suc p.long }
      where
        is : {y : Label} → In y (m ∷ put_in_order x l) → (y ≡ x) ⊎ In y (m ∷ l)
        is (head e) = inr (head e)
        is {y} (tail i) = on (p.is i)
          where
            on : (y ≡ x) ⊎ In y l → (y ≡ x) ⊎ In y (m ∷ l)
            on (inl e) = inl e
            on (inr j) = inr (tail j)

        keeps : {y : Label} → In y (m ∷ l) → In y (m ∷ put_in_order x l)
        keeps (head e) = head e
        keeps (tail i) = tail (p.keeps i)

nowhere : {x : Label} → In x [] → ⊥
nowhere = elim [ ]

put_ascends : (x : Label) {l : List Label} → Ascending l → ((y : Label) → In y l → y.start ≢ x.start) → Ascending (put_in_order x l)
unfolding put_in_order
put_ascends x ended d = ahead (λ y i. absurd (nowhere i)) ended
put_ascends x (ahead {x = m} {l = l} f a) d = go (ltb x.start m.start) refl (put_ascends x a (λ y i. d y (tail i)))
  where
    go : (b : Bool) → ltb x.start m.start ≡ b → Ascending (put_in_order x l) → Ascending (cond b (x ∷ m ∷ l) (m ∷ put_in_order x l))
    go true e ih = ahead first (ahead f a)
      where
        first : (y : Label) → In y (m ∷ l) → x.start < y.start
        first y (head g) = rw g (ltb-true x.start m.start e)
        first y (tail i) = let h = ltb-true x.start m.start e in let k = f y i in omega arith
    go false e ih = ahead behind ih
      where
        behind : (y : Label) → In y (put_in_order x l) → m.start < y.start
        behind y i = on ((put x l).is i)
          where
            on : (y ≡ x) ⊎ In y l → m.start < y.start
            on (inl g) = let h = ltb-false x.start m.start e in let k = d m (head refl) in rw g (omega arith)
            on (inr j) = f y j

-- l has the labels of t, in their order
pub record Sorted (t l : List Label) : Type 0 where
  pub is : {x : Label} → In x l → In x t
  pub has : {x : Label} → In x t → In x l
  pub long : length l ≡ length t
  pub ascends : Ascending l

pub sorted : (t : Table) → Apart t → Sorted t (in_order t)
unfolding in_order
sorted [] d = record { is = λ i. i; has = λ i. i; long = refl; ascends = ended }
sorted (x ∷ t) d = go (sorted t d.1)
  where
    go : Sorted t (in_order t) → Sorted (x ∷ t) (put_in_order x (in_order t))
    go r =
        record {
          is = λ i. on (p.is i);
          has = has;
          long = p.long ∙ ap suc r.long;
          ascends = put_ascends x r.ascends (λ y i. d.0 y (r.is i));
        }
      where
        p : Put x (in_order t) (put_in_order x (in_order t))
        p = put x (in_order t)

        on : {y : Label} → (y ≡ x) ⊎ In y (in_order t) → In y (x ∷ t)
        on (inl e) = head e
        on (inr i) = tail (r.is i)

        has : {y : Label} → In y (x ∷ t) → In y (put_in_order x (in_order t))
        has (head e) = rw e p.has
        has (tail i) = p.keeps (r.has i)

-- two lists in that order that have the same labels are the same
pub once : {l m : List Label} → Ascending l → Ascending m → ((x : Label) → In x l → In x m) → ((x : Label) → In x m → In x l) → l ≡ m
once ended ended f g = refl
once ended (ahead {x = x} h b) f g = absurd (nowhere (g x (head refl)))
once (ahead {x = x} h a) ended f g = absurd (nowhere (f x (head refl)))
once (ahead {x = x} {l = l} h a) (ahead {x = y} {l = m} k b) f g = go (once a b (λ z i. forth z i (f z (tail i))) (λ z i. back z i (g z (tail i))))
  where
    same : x ≡ y
    same = on (f x (head refl)) (g y (head refl))
      where
        on : In x (y ∷ m) → In y (x ∷ l) → x ≡ y
        on (head e) j = e
        on (tail i) (head e) = sym e
        on (tail i) (tail j) = let u = k x i in let v = h y j in absurd (omega arith)

    forth : (z : Label) → In z l → In z (y ∷ m) → In z m
    forth z i (head e) = let u = h z i in let v : z.start ≡ x.start = ap (λ (w : Label). w.start) (e ∙ sym same) in absurd (omega arith)
    forth z i (tail j) = j

    back : (z : Label) → In z m → In z (x ∷ l) → In z l
    back z i (head e) = let u = k z i in let v : z.start ≡ y.start = ap (λ (w : Label). w.start) (e ∙ same) in absurd (omega arith)
    back z i (tail j) = j

    go : l ≡ m → x ∷ l ≡ y ∷ m
    go e = rw (same, e)

-- the same by the places in a list
pub entry_in : (l : List Label) (i : ℕ) {x : Label} → IsEntry l i x → In x l
entry_in [] i e = clash cc
entry_in (y ∷ l) zero {x} e = let f : x ≡ y = cc in head f
entry_in (y ∷ l) (suc i) e = tail (entry_in l i e)

pub in_entry : {x : Label} {l : List Label} → In x l → (i : ℕ) × IsEntry l i x
in_entry (head e) = (zero, ap Some (sym e))
in_entry (tail i) = let h = in_entry i in (suc h.0, h.1)

pub ascends_at : {l : List Label} → Ascending l → (i j : ℕ) {x y : Label} → IsEntry l i x → IsEntry l j y → i < j → x.start < y.start
ascends_at ended i j e f h = clash cc
ascends_at (ahead k a) zero zero e f h = absurd (omega arith)
ascends_at (ahead {x = z} {l = l} k a) zero (suc j) {x} {y} e f h = let v : z ≡ x = cc in rw (← v) (k y (entry_in l j f))
ascends_at (ahead k a) (suc i) zero e f h = absurd (omega arith)
ascends_at (ahead k a) (suc i) (suc j) e f h = ascends_at a i j e f (omega arith)

pub ascends_by : (l : List Label) → ((i j : ℕ) (x y : Label) → IsEntry l i x → IsEntry l j y → i < j → x.start < y.start) → Ascending l
ascends_by [] f = ended
ascends_by (x ∷ l) f =
    ahead {l = l} (λ y i. let h = in_entry i in f zero (suc h.0) x y refl h.1 (omega arith)) (ascends_by l (λ i j y z e g h. f (suc i) (suc j) y z e g (omega arith)))
