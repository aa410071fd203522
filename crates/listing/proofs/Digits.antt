-- Laws of digits: how many there are, and how they are put from the last one on. Assumes nothing.
use Prim.Native.Nat.{ℕ, zero, suc, ◌+◌, ◌-◌, ◌/◌, ◌%◌, ◌^◌, ◌<◌, ◌≤◌, suc-le-suc}
use mathlib.Core.Path.{◌≡◌, refl, sym, ap, ◌∙◌}
use mathlib.Core.Bool.{Bool, true, false}
use mathlib.Core.List.{List, [], ◌∷◌}
use native.Mathlib.Nat.{le_refl, pow-suc}
use native.Mathlib.Numerals.{add-one}
use native.Mathlib.Omega.{arith}
use borrow.Author.Tests.{lt-ltb, le-ltb, ltb-true, ltb-false}
use lib.Dec.{ltb}
use lib.ListN.{length, set, length-append, length-set}
use Rattle.listing.specs.Listing.{digit_byte, digits_of, decimal_places_by, decimal_places, decimal}
use Rattle.text.specs.Spans.{over_from}
use Rattle.text.proofs.Over.{put_last, put_nil}

pub length_digits : (base k n : ℕ) → length (digits_of base k n) ≡ k
unfolding digits_of
length_digits base zero n = refl
length_digits base (suc k) n =
    rw (length-append (digits_of base k (n / base)) (digit_byte (n % base) ∷ []), length_digits base k (n / base)) (add-one k)

less : (k : ℕ) → suc k - 1 ≡ k
less k = omega arith

-- a turn: the last digit is set, and the others are those of the quotient
pub digit_put : (i base k n : ℕ) (l : List ℕ) → 0 < k → i + k ≤ length l
    → over_from i (digits_of base k n) l ≡ over_from i (digits_of base (k - 1) (n / base)) (set l (i + (k - 1)) (digit_byte (n % base)))
unfolding digits_of
digit_put i base zero n l p h = absurd (omega arith)
digit_put i base (suc k) n l p h =
    let s = digits_of base k (n / base) in
    let last = put_last i (digit_byte (n % base)) s l (rw (length_digits base k (n / base)) (omega arith)) in
    rw (less k) (rw (length_digits base k (n / base)) at last)

-- i digits are still to be put, those of rest
pub record Spelling (start base count n : ℕ) (first : List ℕ) (i rest : ℕ) (l : List ℕ) : Type 0 where
  pub upto : i ≤ count
  pub long : length l ≡ length first
  pub same : over_from start (digits_of base count n) first ≡ over_from start (digits_of base i rest) l

module _ {start base count n : ℕ} {first : List ℕ} {i rest : ℕ} {l : List ℕ} (r : Spelling start base count n first i rest l) where
  pub spelling_more : (b : ℕ) → start + count ≤ length l → 0 < i → b ≡ digit_byte (rest % base)
      → Spelling start base count n first (i - 1) (rest / base) (set l (start + (i - 1)) b)
  spelling_more b h p e =
      record {
        upto = omega (arith, r.upto);
        long = length-set l (start + (i - 1)) b ∙ r.long;
        same = r.same ∙ rw e (digit_put start base i rest l p (omega (arith, r.upto)));
      }

  pub spelling_end : i ≤ 0 → l ≡ over_from start (digits_of base count n) first
  unfolding digits_of
  spelling_end h = let none : i ≡ 0 = omega arith in sym (r.same ∙ rw none (put_nil start l))

-- ---- decimal places, whatever the steps
by_small : (steps n : ℕ) → ltb n 10 ≡ true → decimal_places_by steps n ≡ 1
unfolding decimal_places_by
by_small zero n e = refl
by_small (suc steps) n e = rw (e, decimal_places_by)

by_zero : (n : ℕ) → decimal_places_by 0 n ≡ 1
unfolding decimal_places_by
by_zero n = refl

by_large : (steps n : ℕ) → ltb n 10 ≡ false → decimal_places_by (suc steps) n ≡ suc (decimal_places_by steps (n / 10))
unfolding decimal_places_by
by_large steps n e = rw (e, decimal_places_by)

by_enough : (f g n : ℕ) → n ≤ f → n ≤ g → decimal_places_by f n ≡ decimal_places_by g n
by_enough zero g n h k = let e = lt-ltb n 10 (omega arith) in by_small zero n e ∙ sym (by_small g n e)
by_enough (suc f) zero n h k = let e = lt-ltb n 10 (omega arith) in by_small (suc f) n e ∙ sym (by_small zero n e)
by_enough (suc f) (suc g) n h k = go (ltb n 10) refl (λ p q. by_enough f g (n / 10) p q)
  where
    go : (y : Bool) → ltb n 10 ≡ y → (n / 10 ≤ f → n / 10 ≤ g → decimal_places_by f (n / 10) ≡ decimal_places_by g (n / 10)) → decimal_places_by (suc f) n ≡ decimal_places_by (suc g) n
    go true e ih = by_small (suc f) n e ∙ sym (by_small (suc g) n e)
    go false e ih = let l = ltb-false n 10 e in by_large f n e ∙ ap suc (ih (omega arith) (omega arith)) ∙ sym (by_large g n e)

pub one_place : (n : ℕ) → n < 10 → decimal_places n ≡ 1
one_place n h = by_small n n (lt-ltb n 10 h)

pub more_places : (n : ℕ) → 10 ≤ n → decimal_places n ≡ suc (decimal_places (n / 10))
more_places zero h = absurd (omega arith)
more_places (suc m) h =
    by_large m (suc m) (le-ltb (suc m) 10 h) ∙ ap suc (by_enough m (suc m / 10) (suc m / 10) (omega arith) (le_refl (suc m / 10)))

-- a number below a power of ten has no more places than the exponent
pub few_places : (k n : ℕ) → n < 10 ^ suc k → decimal_places n ≤ suc k
few_places zero n h = rw (one_place n h) (le_refl 1)
few_places (suc k) n h = go (ltb n 10) refl (λ p. few_places k (n / 10) p)
  where
    go : (y : Bool) → ltb n 10 ≡ y → (n / 10 < 10 ^ suc k → decimal_places (n / 10) ≤ suc k) → decimal_places n ≤ suc (suc k)
    go true e ih = rw (one_place n (ltb-true n 10 e)) (omega arith)
    go false e ih = rw (more_places n (ltb-false n 10 e)) (suc-le-suc (ih (omega (arith, pow-suc 10 (suc k)))))

some_place : (steps n : ℕ) → 1 ≤ decimal_places_by steps n
some_place zero n = rw (by_zero n) (le_refl 1)
some_place (suc steps) n = go (ltb n 10) refl
  where
    go : (y : Bool) → ltb n 10 ≡ y → 1 ≤ decimal_places_by (suc steps) n
    go true e = rw (by_small (suc steps) n e) (le_refl 1)
    go false e = rw (by_large steps n e) (omega arith)

-- the loop that counts them: count places stand after those of rest, but for one
pub record Dividing (n count rest : ℕ) : Type 0 where
  pub few : decimal_places n ≤ 20
  pub same : decimal_places n + 1 ≡ decimal_places rest + count

pub dividing_start : (n : ℕ) → n < 2 ^ 64 → Dividing n 1 n
dividing_start n h = record { few = few_places 19 n (omega arith); same = refl }

module _ {n count rest : ℕ} (r : Dividing n count rest) where
  dividing_few : count ≤ 20
  dividing_few = omega (arith, r.few, r.same, some_place rest rest)

  pub dividing_more : 10 ≤ rest → Dividing n (count + 1) (rest / 10)
  dividing_more h = record { few = r.few; same = omega (arith, r.same, more_places rest h) }

  pub dividing_end : rest < 10 → (count ≡ decimal_places n) × (count ≤ 20)
  dividing_end h = (omega (arith, r.same, one_place rest h), dividing_few)

-- as many digits as there are places
pub decimal_length : (count n : ℕ) → count ≡ decimal_places n → count ≡ length (decimal n)
unfolding decimal
decimal_length count n e = e ∙ sym (length_digits 10 (decimal_places n) n)

pub decimal_put : (i count n : ℕ) (l x : List ℕ) → count ≡ decimal_places n → x ≡ over_from i (digits_of 10 count n) l → x ≡ over_from i (decimal n) l
unfolding decimal
decimal_put i count n l x e h = rw e at h
