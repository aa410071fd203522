-- Reading LIMIT, a decimal number of 64 bits. Assumes nothing.
use Rattle.std.specs.Prelude.{None, Some}
use Prim.Native.Nat.{ℕ, ◌+◌, ◌*◌, ◌^◌, ◌<◌, ◌≤◌}
use mathlib.Core.Path.{◌≡◌, refl}
use mathlib.Core.Bool.{Bool, true, false}
use mathlib.Core.List.{[], ◌∷◌}
use native.Mathlib.Numerals.{add-one}
use native.Mathlib.Omega.{arith}
use lib.Dec.{ltb}
use lib.ListN.{length, get_or, drop, drop_of_length-le}
use lib.Seq.{drop-cons}
use borrow.Author.Tests.{lt-ltb, le-ltb, ltb-true, ltb-false}
use Rattle.rules.specs.Text.{Text}
use Rattle.rules.specs.Number.{digit_value, digits, some_digits, ranged, below, value_of}
use Rattle.benchtext.specs.Arguments.{decimal_in}

-- not below is from there on
pub not_below : (a b : ℕ) → (a < b → ⊥) → b ≤ a
not_below a b n = go (ltb a b) refl
  where
    go : (x : Bool) → ltb a b ≡ x → b ≤ a
    go true e = absurd (n (ltb-true a b e))
    go false e = ltb-false a b e

-- from the bound on no number is read
too_large : (bound v : ℕ) (s : Text) → bound ≤ v → value_of (ranged (below bound) (digits 10 v s)) ≡ None
unfolding digits ranged below value_of
too_large bound v [] h = rw (ranged, le-ltb v bound h)
too_large bound v (b ∷ s) h = go (ltb (digit_value b) 10) refl (λ k. too_large bound (v * 10 + digit_value b) s k)
  where
    go : (x : Bool) → ltb (digit_value b) 10 ≡ x
        → (bound ≤ v * 10 + digit_value b → value_of (ranged (below bound) (digits 10 (v * 10 + digit_value b) s)) ≡ None)
        → value_of (ranged (below bound) (digits 10 v (b ∷ s))) ≡ None
    go true e next = rw (e, digits) (next (omega arith))
    go false e next = rw (e, digits)

-- the reader at byte i, with the value v so far: the rest reads as the whole
pub record Counting (t : Text) (v i : ℕ) : Type 0 where
  pub reached : i ≤ length t
  pub fits : v < 2 ^ 64
  pub same : some_digits 10 t ≡ digits 10 v (drop i t)

pub nothing_read : (t : Text) → length t ≡ 0 → None ≡ decimal_in (2 ^ 64) t
unfolding decimal_in some_digits ranged value_of
nothing_read [] h = refl
nothing_read (b ∷ s) h = absurd (omega arith)

pub begins : (t : Text) → (length t ≡ 0 → ⊥) → Counting t 0 0
unfolding some_digits
begins [] h = absurd (h refl)
begins (b ∷ s) h = record { reached = omega arith; fits = omega arith; same = refl }

module _ {t : Text} {v i : ℕ} (r : Counting t v i) where
  pub ends : length t ≤ i → Some v ≡ decimal_in (2 ^ 64) t
  unfolding decimal_in digits ranged below value_of
  ends k = rw (r.same, drop_of_length-le t k, ranged, lt-ltb v (2 ^ 64) r.fits)

  module _ (d : ℕ) (h : i < length t) (e : d ≡ digit_value (get_or t i 0)) where
    pub bad_digit_lem : 10 ≤ d → None ≡ decimal_in (2 ^ 64) t
    unfolding decimal_in digits ranged value_of
    bad_digit_lem k = rw (r.same, drop-cons t i 0, ← e, le-ltb d 10 k, digits)

    next : d < 10 → some_digits 10 t ≡ digits 10 (v * 10 + d) (drop (i + 1) t)
    unfolding digits
    next k = rw (r.same, add-one i, drop-cons t i 0, e, lt-ltb (digit_value (get_or t i 0)) 10 (rw e at k), digits)

    pub too_high : d < 10 → 2 ^ 64 ≤ v * 10 + d → None ≡ decimal_in (2 ^ 64) t
    unfolding decimal_in
    too_high k l = rw (next k, too_large (2 ^ 64) (v * 10 + d) (drop (i + 1) t) l)

    pub goes_on : d < 10 → v * 10 + d < 2 ^ 64 → Counting t (v * 10 + d) (i + 1)
    goes_on k l = record { reached = omega arith; fits = l; same = next k }
