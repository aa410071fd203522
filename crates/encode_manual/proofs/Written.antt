-- Whether a displacement fits, as the code tests it, and a displacement as written: a sign and digits of any length. Assumes nothing.
use Rattle.std.specs.Prelude.{Option, None, Some, Result, Ok, Err, option_map}
use Rattle.std.specs.Result.{IsErrAnd}
use Prim.Native.Nat.{ℕ, ◌+◌, ◌*◌, ◌<◌, ◌≤◌}
use mathlib.Core.Path.{◌≡◌, refl, sym, ap, ◌∙◌}
use mathlib.Core.Bool.{Bool, true, false, false≢true, ◌||◌, ◌&&◌, cond}
use mathlib.Core.List.{List, [], ◌∷◌}
use native.Mathlib.Omega.{arith}
use lib.Dec.{ltb, eqb}
use lib.IntN.{ℤ, pos, negsuc, neg_ℤ}
use lib.Signed.{mag}
use borrow.Author.Tests.{lt-ltb, le-ltb, ltb-true, ltb-false, eqb-true}
use Rattle.rules.specs.Text.{Text, bytes, starts}
use Rattle.rules.specs.Number.{Reading, read, failed, no_digits, bad_digit, out_of_range, digit_value, digits, some_digits, ranged, within, without, signed_reading, value_of}
use Rattle.text.proofs.Compare.{eqb_sym}
use Rattle.requests.specs.ManualCall.{fits, listed, signed_digits}
use Rattle.numeral.specs.Number.{result_of}
use Rattle.numeral.specs.declared.Failure.{Failure}
use Rattle.numeral.specs.declared.Failure.TheVariants.{OutOfRange}
use Rattle.encode_manual.specs.Displacement.{branching_in, room_for, displacement_in, unfit_of}
use Rattle.encode_manual.specs.declared.displacement.Room.{Room}
use Rattle.encode_manual.specs.declared.displacement.Room.TheVariants.{Byte, Word}
use Rattle.encode_manual.specs.declared.displacement.Unfit.{Unfit}
use Rattle.encode_manual.specs.declared.displacement.Unfit.TheVariants.{Nothing}
use Rattle.encode_manual.proofs.Displaced.{far}

-- ---- the code's test
pub fits_within : (r : Room) (z : ℤ) → fits (branching_in r) z ≡ room_for r (mag z)
unfolding fits
fits_within Byte (pos n) = refl
fits_within Byte (negsuc n) = refl
fits_within Word (pos n) = refl
fits_within Word (negsuc n) = refl

-- whatever fits has sixteen bits
within_word : (r : Room) (n : ℕ) → room_for r n ≡ true → n < 32768
within_word Byte n h = go (ltb 0 n) (ltb n 128) refl h
  where
    go : (x y : Bool) → ltb n 128 ≡ y → (x && y) ≡ true → n < 32768
    go true true q e = let l = ltb-true n 128 q in omega arith
    go true false q e = absurd (false≢true e)
    go false y q e = absurd (false≢true e)
within_word Word n h = ltb-true n 32768 h

pub fits_word : (r : Room) (z : ℤ) → room_for r (mag z) ≡ true → mag z < 32768
fits_word r z h = within_word r (mag z) h

not_within : (r : Room) (n : ℕ) → 32768 ≤ n → room_for r n ≡ false
not_within Byte n h = rw (lt-ltb 0 n (omega arith), le-ltb n 128 (omega arith))
not_within Word n h = le-ltb n 32768 h

none_in_word : (r : Room) (z : ℤ) → 32768 ≤ mag z → fits (branching_in r) z ≡ false
none_in_word r z h = fits_within r z ∙ not_within r (mag z) h

-- ---- a number as written
-- digits are never out of range by themselves
abbrev Unbounded : Reading ℕ → Type 0
Unbounded (read v) = Unit
Unbounded (failed no_digits) = Unit
Unbounded (failed bad_digit) = Unit
Unbounded (failed out_of_range) = ⊥

digits_unbounded : (v : ℕ) (s : Text) → Unbounded (digits 10 v s)
unfolding digits
digits_unbounded v [] = tt
digits_unbounded v (b ∷ s) = go (ltb (digit_value b) 10) (digits_unbounded (v * 10 + digit_value b) s)
  where
    go : (y : Bool) → Unbounded (digits 10 (v * 10 + digit_value b) s) → Unbounded (elim y [ true ↦ digits 10 (v * 10 + digit_value b) s | false ↦ failed bad_digit ])
    go true h = h
    go false h = tt

some_unbounded : (s : Text) → Unbounded (some_digits 10 s)
unfolding some_digits
some_unbounded [] = tt
some_unbounded (b ∷ s) = digits_unbounded 0 (b ∷ s)

-- the digits after a sign, of which g makes the number
module _ (g : ℕ → ℤ) (b : Room) where
  abbrev after_sign : Reading ℕ → List ℤ
  after_sign d = listed (option_map g (value_of d))

  within_is : (z y : ℤ) → within 32768 z ≡ Some y → z ≡ y
  unfolding within
  within_is (pos n) y e = go (ltb n 32768) e
    where
      go : (t : Bool) → cond t (Some (pos n)) None ≡ Some y → pos n ≡ y
      go true q = cc
      go false q = cc
  within_is (negsuc n) y e = go (ltb n 32768) e
    where
      go : (t : Bool) → cond t (Some (negsuc n)) None ≡ Some y → negsuc n ≡ y
      go true q = cc
      go false q = cc

  within_none : (z : ℤ) → within 32768 z ≡ None → 32768 ≤ mag z
  unfolding within
  within_none (pos n) e = go (ltb n 32768) refl e
    where
      go : (t : Bool) → ltb n 32768 ≡ t → cond t (Some (pos n)) None ≡ None → 32768 ≤ n
      go true p q = let y : ◌≡◌ {A = ℕ} 0 1 = cc in absurd (omega arith)
      go false p q = ltb-false n 32768 p
  within_none (negsuc n) e = go (ltb n 32768) refl e
    where
      go : (t : Bool) → ltb n 32768 ≡ t → cond t (Some (negsuc n)) None ≡ None → 32768 ≤ n
      go true p q = let y : ◌≡◌ {A = ℕ} 0 1 = cc in absurd (omega arith)
      go false p q = ltb-false n 32768 p

  read_value : (d : Reading ℕ) {z : ℤ} → result_of (ranged (λ v. within 32768 (g v)) d) ≡ Ok z → after_sign d ≡ z ∷ []
  unfolding ranged value_of listed
  read_value (failed x) e = cc
  read_value (read v) {z} e = go (within 32768 (g v)) refl e
    where
      go : (o : Option ℤ) → within 32768 (g v) ≡ o → result_of (elim o [ None ↦ failed out_of_range | Some a ↦ read a ]) ≡ Ok z → g v ∷ [] ≡ z ∷ []
      go None q p = cc
      go (Some y) q p = let k : y ≡ z = cc in ap (λ (w : ℤ). w ∷ []) (within_is (g v) y q ∙ k)

  read_failure : (d : Reading ℕ) → Unbounded d → {x : Failure} → result_of (ranged (λ v. within 32768 (g v)) d) ≡ Err x
      → Err (unfit_of x) ≡ displacement_in (fits (branching_in b)) (after_sign d)
  unfolding ranged value_of listed
  read_failure (failed no_digits) u e = let k = sym e in cc
  read_failure (failed bad_digit) u e = let k = sym e in cc
  read_failure (failed out_of_range) u e = absurd u
  read_failure (read v) u {x} e = go (within 32768 (g v)) refl e
    where
      go : (o : Option ℤ) → within 32768 (g v) ≡ o → result_of (elim o [ None ↦ failed out_of_range | Some a ↦ read a ]) ≡ Err x
          → Err (unfit_of x) ≡ displacement_in (fits (branching_in b)) (g v ∷ [])
      go None q p = let k : OutOfRange ≡ x = cc in rw (← k) (far (fits (branching_in b)) (g v) (none_in_word b (g v) (within_none (g v) q)))
      go (Some y) q p = cc

-- a text that starts with a sign
data Marked : Text → Type 0 where
  plus : (t : Text) → Marked (43 ∷ t)
  minus : (t : Text) → Marked (45 ∷ t)

marked : (s : Text) → (starts (bytes "+") s || starts (bytes "-") s) ≡ true → Marked s
unfolding starts bytes
marked [] e = absurd (false≢true e)
marked (b ∷ t) e = go (eqb 43 b) refl (eqb 45 b) refl
  where
    go : (x : Bool) → eqb 43 b ≡ x → (y : Bool) → eqb 45 b ≡ y → Marked (b ∷ t)
    go true p y q = rw (← eqb-true 43 b p) (plus t)
    go false p true q = rw (← eqb-true 45 b q) (minus t)
    go false p false q = absurd (false≢true (rw (p, q, starts) at e))

unmarked : (s : Text) → (starts (bytes "+") s || starts (bytes "-") s) ≡ false → signed_digits s ≡ None
unfolding starts bytes signed_digits
unmarked [] e = refl
unmarked (b ∷ t) e = go (eqb 43 b) refl (eqb 45 b) refl
  where
    go : (x : Bool) → eqb 43 b ≡ x → (y : Bool) → eqb 45 b ≡ y → signed_digits (b ∷ t) ≡ None
    go true p y q = absurd (false≢true (sym (rw (p, starts) at e)))
    go false p true q = absurd (false≢true (sym (rw (p, q, starts) at e)))
    go false p false q = rw (eqb_sym b 43 ∙ p, eqb_sym b 45 ∙ q)

module _ (b : Room) (s : Text) {y : Bool} (e : y ≡ (starts (bytes "+") s || starts (bytes "-") s)) where
  pub not_written : y ≡ false → Err Nothing ≡ displacement_in (fits (branching_in b)) (listed (signed_digits s))
  unfolding listed
  not_written h = rw (unmarked s (sym e ∙ h))

  module _ (h : y ≡ true) {x : Result ℤ Failure} (q : x ≡ result_of (signed_reading 10 32768 s)) where
    pub written : {z : ℤ} {r : Result ℕ Unfit} → x ≡ Ok z → r ≡ displacement_in (fits (branching_in b)) (z ∷ []) → r ≡ displacement_in (fits (branching_in b)) (listed (signed_digits s))
    unfolding signed_reading signed_digits without
    written {z} {r} v k = k ∙ ap (displacement_in (fits (branching_in b))) (sym (go s (marked s (sym e ∙ h)) (sym q ∙ v)))
      where
        go : (t : Text) → Marked t → result_of (signed_reading 10 32768 t) ≡ Ok z → listed (signed_digits t) ≡ z ∷ []
        go _ (plus t) p = read_value pos b (some_digits 10 t) p
        go _ (minus t) p = read_value (λ n. neg_ℤ (pos n)) b (some_digits 10 t) p

    pub misread : {f : Failure} {r : Result ℕ Unfit} → x ≡ Err f → r ≡ Err (unfit_of f) → r ≡ displacement_in (fits (branching_in b)) (listed (signed_digits s))
    unfolding signed_reading signed_digits without
    misread {f} v k = k ∙ go s (marked s (sym e ∙ h)) (sym q ∙ v)
      where
        go : (t : Text) → Marked t → result_of (signed_reading 10 32768 t) ≡ Err f → Err (unfit_of f) ≡ displacement_in (fits (branching_in b)) (listed (signed_digits t))
        go _ (plus t) p = read_failure pos b (some_digits 10 t) (some_unbounded t) p
        go _ (minus t) p = read_failure (λ n. neg_ℤ (pos n)) b (some_digits 10 t) (some_unbounded t) p

-- the error that a failure becomes
pub err_is : {v : Unfit} (r : Result ℕ Unfit) → IsErrAnd r (λ u. u ≡ v) → r ≡ Err v
err_is (Ok x) k = absurd k
err_is (Err u) k = rw k
