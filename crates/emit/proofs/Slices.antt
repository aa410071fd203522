-- Places put into the three slices: the laws of stores, for all three at once. Assumes nothing.
use mathlib.Core.Path.{◌≡◌, refl, sym, ap, ◌∙◌}
use mathlib.Core.List.{List, [], ◌++◌, map, map-append}
use Prim.Native.Nat.{ℕ, ◌+◌, ◌≤◌}
use native.Mathlib.Nat.{add-zero}
use native.Mathlib.Omega.{arith}
use borrow.Rule.Slice.PartMut.{put_mid}
use Prim.Native.Nat.{◌-◌}
use lib.ListN.{length, take, drop, length-map}
use lib.Seq.{sets, length-sets}
use Rattle.rules.specs.Assemble.{Place, Slices, slices, over, holding}
use Rattle.emit.specs.Places.{put_from, Room, placed, SameSlices, Puts, Taken}
use Rattle.emit.specs.declared.places.Places.{Places}
use Rattle.emit.proofs.Stores.{sets_append, sets_swap, sets_lent, sets_over}

-- ---- one field of the places
module _ (f : Place → ℕ) where
  field_append : (l k : List Place) (n : ℕ) (xs : List ℕ) → sets xs n (map f (l ++ k)) ≡ sets (sets xs n (map f l)) (n + length l) (map f k)
  field_append l k n xs = rw (map-append f l k, ← length-map l f) (sets_append (map f l) (map f k) xs n)

  field_swap : (l k : List Place) (i j : ℕ) (xs : List ℕ) → i + length l ≤ j → sets (sets xs j (map f k)) i (map f l) ≡ sets (sets xs i (map f l)) j (map f k)
  field_swap l k i j xs h = sets_swap (map f l) (map f k) xs i j (rw (length-map l f) h)

  field_over : (l : List Place) (xs : List ℕ) → length l ≤ length xs → sets xs 0 (map f l) ≡ over (map f l) xs
  field_over l xs h = sets_over (map f l) xs (rw (length-map l f) h)

-- ---- all three
pub put_append : (l k : List Place) (n : ℕ) (x : Slices) → put_from n (l ++ k) x ≡ put_from (n + length l) k (put_from n l x)
unfolding put_from
put_append l k n x =
    rw (field_append (λ p. p.address) l k n x.addresses, field_append (λ p. p.word) l k n x.words, field_append (λ p. p.mark) l k n x.marks)

pub put_swap : (l k : List Place) (i j : ℕ) (x : Slices) → i + length l ≤ j → put_from i l (put_from j k x) ≡ put_from j k (put_from i l x)
unfolding put_from
put_swap l k i j x h =
    rw (field_swap (λ p. p.address) l k i j x.addresses h, field_swap (λ p. p.word) l k i j x.words h, field_swap (λ p. p.mark) l k i j x.marks h)

pub put_holding : (l : List Place) (x : Slices) → Room (length l) x → put_from 0 l x ≡ holding l x
unfolding put_from holding
put_holding l x r =
    rw (field_over (λ p. p.address) l x.addresses r.addresses, field_over (λ p. p.word) l x.words r.words, field_over (λ p. p.mark) l x.marks r.marks)

-- nothing put
pub put_none : (n : ℕ) (x : Slices) → put_from n [] x ≡ x
unfolding put_from
put_none n x = refl

-- ---- the slices keep their lengths
pub put_room : (n : ℕ) (l : List Place) (m : ℕ) (x : Slices) → Room m x → Room m (put_from n l x)
unfolding put_from
put_room n l m x r =
    record {
      addresses = rw (length-sets x.addresses n (map (λ p. p.address) l)) r.addresses;
      words = rw (length-sets x.words n (map (λ p. p.word) l)) r.words;
      marks = rw (length-sets x.marks n (map (λ p. p.mark) l)) r.marks;
    }

pub room_less : {x : Slices} (m n : ℕ) → m ≤ n → Room n x → Room m x
room_less m n h r = record { addresses = omega (arith, r.addresses); words = omega (arith, r.words); marks = omega (arith, r.marks) }

-- ---- the same of places
pub same_slices : (p : Places) → SameSlices p p
same_slices p = record { addresses = refl; words = refl; marks = refl }

pub then_same : {p q r : Places} → SameSlices p q → SameSlices q r → SameSlices p r
then_same h g = record { addresses = g.addresses ∙ h.addresses; words = g.words ∙ h.words; marks = g.marks ∙ h.marks }

pub puts_none : (n : ℕ) (p : Places) → Puts n [] p p
puts_none n p = record { same = same_slices p; put = sym (put_none n (placed p)) }

-- some places, then more
pub puts_both : {l k : List Place} {n : ℕ} {p q r : Places} (m : ℕ) → m ≡ n + length l → Puts n l p q → Puts m k q r → Puts n (l ++ k) p r
puts_both {l} {k} {n} {p} m e h g = record { same = then_same h.same g.same; put = g.put ∙ rw (e, h.put) (sym (put_append l k n (placed p))) }

pub puts_room : {l : List Place} {n : ℕ} {p q : Places} (m : ℕ) → Puts n l p q → Room m (placed p) → Room m (placed q)
puts_room {l} {n} {p} m h r = rw h.put (put_room n l m (placed p) r)

-- nothing taken
pub taken_none : (n : ℕ) (l : List Place) (p : Places) → l ≡ [] → Taken n l p n p
taken_none n l p e = rw e (record { count = sym (add-zero n); puts = puts_none n p })

pub taken_as : {n r : ℕ} {l k : List Place} {p q : Places} → k ≡ l → Taken n k p r q → Taken n l p r q
taken_as e h = rw e at h

-- the rest of three slices
abbrev pub rest_of : ℕ → List ℕ → List ℕ
rest_of v l = take (length l - v) (drop v l)

abbrev pub back_at : ℕ → List ℕ → List ℕ → List ℕ
back_at v l last = put_mid v (length l - v) l last

-- it was lent, from v on, and came back
pub put_lent : (v m : ℕ) (l : List Place) (xs ys zs xs' ys' zs' : List ℕ) → slices xs' ys' zs' ≡ put_from m l (slices (rest_of v xs) (rest_of v ys) (rest_of v zs))
    → slices (back_at v xs xs') (back_at v ys ys') (back_at v zs zs') ≡ put_from (v + m) l (slices xs ys zs)
unfolding put_from
put_lent v m l xs ys zs xs' ys' zs' e =
    rw (
      sets_lent v m (map (λ p. p.address) l) xs xs' (ap (λ s. s.addresses) e),
      sets_lent v m (map (λ p. p.word) l) ys ys' (ap (λ s. s.words) e),
      sets_lent v m (map (λ p. p.mark) l) zs zs' (ap (λ s. s.marks) e),
    )
