-- What the search for the next row finds: the next entry of the list in order, or that there is no further one. Assumes nothing.
use Rattle.std.specs.Prelude.{Option, None, Some}
use mathlib.Core.Path.{◌≡◌, refl}
use mathlib.Core.Bool.{Bool, true, false}
use mathlib.Core.List.{List, [], ◌∷◌}
use Prim.Native.Nat.{ℕ, ◌≤◌, ◌<◌}
use native.Mathlib.Omega.{arith}
use borrow.Author.Tests.{ltb-true, ltb-false}
use lib.Dec.{ltb}
use Rattle.rules.specs.Label.{Label, Table}
use Rattle.promises.specs.Nearest.{In, head, tail}
use Rattle.promises.specs.Symbols.{IsEntry}
use Rattle.promises.proofs.Compared.{Compared, less, more, equal, compared}
use Rattle.promises.proofs.Sorted.{Sorted, entry_in, in_entry, ascends_at}
use Rattle.symbols.specs.Symbols.{earlier_of, next_in}
use Rattle.symbols.proofs.Next.{too_early, alone_is, first_is, second_is}

-- x starts first of the labels that start at i or later
record Least (i : ℕ) (t : Table) (x : Label) : Type 0 where
  least : (y : Label) → In y t → i ≤ y.start → x.start ≤ y.start
  is : In x t
  late : i ≤ x.start

-- and there is none, where all start before
abbrev Found : ℕ → Table → Option Label → Type 0
Found i t None = (y : Label) → In y t → y.start < i
Found i t (Some x) = Least i t x

nowhere : {y : Label} → In y [] → ⊥
nowhere = elim [ ]

least : (i : ℕ) (t : Table) → Found i t (next_in i t)
unfolding next_in
least i [] = λ y j. absurd (nowhere j)
least i (l ∷ t) = go (ltb l.start i) refl (next_in i t) (least i t)
  where
    none : l.start < i → ((y : Label) → In y t → y.start < i) → (y : Label) → In y (l ∷ t) → y.start < i
    none h f y (head e) = rw e h
    none h f y (tail j) = f y j

    keeps : (m : Label) → Least i t m → (i ≤ l.start → m.start ≤ l.start) → Least i (l ∷ t) m
    keeps m r h = record { least = on; is = tail r.is; late = r.late }
      where
        on : (y : Label) → In y (l ∷ t) → i ≤ y.start → m.start ≤ y.start
        on y (head e) = rw e h
        on y (tail j) = r.least y j

    alone : i ≤ l.start → ((y : Label) → In y t → y.start < i) → Least i (l ∷ t) l
    alone h f = record { least = on; is = head refl; late = h }
      where
        on : (y : Label) → In y (l ∷ t) → i ≤ y.start → l.start ≤ y.start
        on y (head e) u = rw e (omega arith)
        on y (tail j) u = let v = f y j in omega arith

    takes : (m : Label) → Least i t m → i ≤ l.start → l.start < m.start → Least i (l ∷ t) l
    takes m r h k = record { least = on; is = head refl; late = h }
      where
        on : (y : Label) → In y (l ∷ t) → i ≤ y.start → l.start ≤ y.start
        on y (head e) u = rw e (omega arith)
        on y (tail j) u = let v = r.least y j u in omega arith

    late : i ≤ l.start → (m : Label) → (c : Bool) → ltb l.start m.start ≡ c → Least i t m → Found i (l ∷ t) (earlier_of i l (Some m))
    late h m true f r = let k = ltb-true l.start m.start f in rw (first_is i l h m k) (takes m r h k)
    late h m false f r = let k = ltb-false l.start m.start f in rw (second_is i l h m k) (keeps m r (λ u. k))

    go : (b : Bool) → ltb l.start i ≡ b → (o : Option Label) → Found i t o → Found i (l ∷ t) (earlier_of i l o)
    go true e None f = let h = ltb-true l.start i e in rw (too_early i l None h) (none h f)
    go true e (Some m) r = let h = ltb-true l.start i e in rw (too_early i l (Some m) h) (keeps m r (λ k. absurd (omega arith)))
    go false e None f = let h = ltb-false l.start i e in rw (alone_is i l h) (alone h f)
    go false e (Some m) r = late (ltb-false l.start i e) m (ltb l.start m.start) refl r

-- where the entries before k start before i, and the others at i or later
module _ {t l : List Label} (s : Sorted t l) (i k : ℕ) (passed : (j : ℕ) (x : Label) → IsEntry l j x → j < k → x.start < i)
    (ahead : (j : ℕ) (x : Label) → IsEntry l j x → k ≤ j → i ≤ x.start) where
  -- it is entry k
  found_entry : (y : Label) → IsEntry l k y → (o : Option Label) → Found i t o → o ≡ Some y
  found_entry y e None f = let u = f y (s.is (entry_in l k e)) in let v = ahead k y e (omega arith) in absurd (omega arith)
  found_entry y e (Some x) r = go (compared found.0 k)
    where
      below : x.start ≤ y.start
      below = r.least y (s.is (entry_in l k e)) (ahead k y e (omega arith))

      found : (j : ℕ) × IsEntry l j x
      found = in_entry (s.has r.is)

      go : Compared found.0 k → Some x ≡ Some y
      go (less u) = let v = passed found.0 x found.1 u in absurd (omega (arith, r.late))
      go (more u) = let v = ascends_at s.ascends k found.0 e found.1 u in absurd (omega (arith, below))
      go (equal u) = let v = rw u at found.1 in cc

  pub next_entry : (y : Label) → IsEntry l k y → next_in i t ≡ Some y
  next_entry y e = found_entry y e (next_in i t) (least i t)

  -- and there is an entry k if there is a label
  later : {x : Label} → Found i t (Some x) → (n : ℕ) → ((j : ℕ) (z : Label) → IsEntry l j z → j < n) → k < n
  later {x} r n f = go (compared found.0 k)
    where
      found : (j : ℕ) × IsEntry l j x
      found = in_entry (s.has r.is)

      go : Compared found.0 k → k < n
      go (less u) = let v = passed found.0 x found.1 u in absurd (omega (arith, r.late))
      go (more u) = let v = f found.0 x found.1 in omega arith
      go (equal u) = let v = f found.0 x found.1 in omega arith

  pub next_upto : {x : Label} → next_in i t ≡ Some x → (n : ℕ) → ((j : ℕ) (z : Label) → IsEntry l j z → j < n) → k < n
  next_upto e n f = later (rw e at (least i t)) n f
