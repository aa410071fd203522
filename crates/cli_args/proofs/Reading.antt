-- Reading digits: the reader's state, and what each of its tests says. Assumes nothing.
use Rattle.std.specs.Prelude.{Option, None, Some, Result, Ok, Err}
use Rattle.std.proofs.Common.{◌≡◌, ℕ, ◌+◌, ◌*◌, ◌<◌, ◌≤◌, Bool, true, false, ltb, [], ◌∷◌, length, get_or, drop, refl, ap, ◌∙◌, le_refl, mul-le-mul, add-one, arith, drop_of_length-le, drop-cons, ltb-true, le-ltb, lt-ltb}
use Rattle.rules.specs.Text.{Text}
use Rattle.rules.specs.Number.{digit_value, Reading, read, failed, digits, some_digits, ranged, below, value_of}
use Rattle.numeral.specs.Number.{number_of}
use Rattle.numeral.specs.declared.Failure.{Failure}
use Rattle.cli_args.specs.Number.{digits_number}

nothing : (t : Text) → length t ≡ 0 → t ≡ []
nothing [] h = refl
nothing (b ∷ s) h = absurd (omega arith)

-- ---- a value past the greatest is none, whatever follows
module _ (radix greatest : ℕ) where
  grown : (v d : ℕ) → greatest < v → d < radix → greatest < v * radix + d
  grown v d h k = let p : v * 1 ≤ v * radix = mul-le-mul {n₁ = v} {m₁ = 1} {n₂ = v} {m₂ = radix} (le_refl v) (omega arith) in omega arith

  too_large : (v : ℕ) (s : Text) → greatest < v → value_of (ranged (below (greatest + 1)) (digits radix v s)) ≡ None
  unfolding digits ranged below value_of
  too_large v [] h = rw (ranged, le-ltb v (greatest + 1) (omega arith))
  too_large v (b ∷ s) h = go (ltb (digit_value b) radix) refl (λ k. too_large (v * radix + digit_value b) s k)
    where
      go : (x : Bool) → ltb (digit_value b) radix ≡ x
          → (greatest < v * radix + digit_value b → value_of (ranged (below (greatest + 1)) (digits radix (v * radix + digit_value b) s)) ≡ None)
          → value_of (ranged (below (greatest + 1)) (digits radix v (b ∷ s))) ≡ None
      go true e next = rw (e, digits) (next (grown v (digit_value b) h (ltb-true (digit_value b) radix e)))
      go false e next = rw (e, digits)

-- ---- the reader at byte i, with the value v so far: the rest reads as the whole
pub record Midway (radix greatest : ℕ) (t : Text) (v i : ℕ) : Type 0 where
  pub reached : i ≤ length t
  pub fits : v ≤ greatest
  pub same : some_digits radix t ≡ digits radix v (drop i t)

module _ (radix greatest : ℕ) (t : Text) where
  pub empty : length t ≡ 0 → None ≡ digits_number radix greatest t
  unfolding digits_number some_digits ranged value_of
  empty h = rw (nothing t h)

  all_left : (t : Text) → (length t ≡ 0 → ⊥) → some_digits radix t ≡ digits radix 0 t
  unfolding some_digits
  all_left [] h = absurd (h refl)
  all_left (b ∷ s) h = refl

  pub begin : (length t ≡ 0 → ⊥) → Midway radix greatest t 0 0
  begin h = record { reached = omega arith; fits = omega arith; same = all_left t h }

module _ {radix greatest : ℕ} {t : Text} {v i : ℕ} (r : Midway radix greatest t v i) where
  pub end : length t ≤ i → Some v ≡ digits_number radix greatest t
  unfolding digits_number digits ranged below value_of
  end k = rw (r.same, drop_of_length-le t k, ranged, lt-ltb v (greatest + 1) (omega (arith, r.fits)))

  pub in_reach : v ≤ greatest
  in_reach = r.fits

  -- the byte at i has the digit value d
  module _ (d : ℕ) (h : i < length t) (e : d ≡ digit_value (get_or t i 0)) where
    pub bad_digit : radix ≤ d → None ≡ digits_number radix greatest t
    unfolding digits_number digits ranged value_of
    bad_digit k = rw (r.same, drop-cons t i 0, ← e, le-ltb d radix k, digits)

    next : d < radix → some_digits radix t ≡ digits radix (v * radix + d) (drop (i + 1) t)
    unfolding digits
    next k = rw (r.same, add-one i, drop-cons t i 0, e, lt-ltb (digit_value (get_or t i 0)) radix (rw e at k), digits)

    pub past : d < radix → (v * radix + d ≤ greatest → ⊥) → None ≡ digits_number radix greatest t
    unfolding digits_number
    past k l = rw (next k, too_large radix greatest (v * radix + d) (drop (i + 1) t) (omega arith))

    pub step : {n : ℕ} → d < radix → v * radix + d ≤ greatest → n ≡ v * radix + d → Midway radix greatest t n (i + 1)
    step k l q = rw q (record { reached = omega arith; fits = l; same = next k })

-- ---- the value of a reading
abbrev value_in : Result ℕ Failure → Option ℕ
value_in (Ok n) = Some n
value_in (Err x) = None

value_is : (r : Reading ℕ) → value_in (number_of r) ≡ value_of r
unfolding value_of
value_is (read v) = refl
value_is (failed x) = refl

pub read_value : (r : Reading ℕ) (n : ℕ) → Ok n ≡ number_of r → Some n ≡ value_of r
read_value r n e = ap value_in e ∙ value_is r

pub failed_value : (r : Reading ℕ) (x : Failure) → Err x ≡ number_of r → None ≡ value_of r
failed_value r x e = ap value_in e ∙ value_is r
