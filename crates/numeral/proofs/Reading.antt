-- Reading digits: the reader's state, and what each of its tests says by the rules. Assumes nothing.
use Rattle.std.proofs.Common.{◌≡◌, ℕ, ◌+◌, ◌-◌, ◌*◌, ◌^◌, ◌<◌, ◌≤◌, Bool, true, false, ltb, [], ◌∷◌, length, get_or, take, drop, refl, ap, le_refl, mul-le-mul, add-one, arith, drop_of_length-le, drop-cons, ltb-true, le-ltb, lt-ltb}
use Rattle.rules.specs.Text.{Text}
use Rattle.rules.specs.Number.{digit_value, failed, digits, some_digits, ranged, below}
use Rattle.rules.specs.Encode.{all_digits}
use Rattle.numeral.specs.Number.{failure_of, number_of, digits_only, past_bound}
use Rattle.numeral.specs.declared.Failure.{Failure}
use Rattle.numeral.specs.declared.Failure.TheVariants.{NoDigits, BadDigit}
use Rattle.std.specs.Prelude.{Ok, Err}
use Rattle.numeral.proofs.Prefix.{rest}

pub nothing : (t : Text) → length t ≡ 0 → t ≡ []
nothing [] h = refl
nothing (b ∷ s) h = absurd (omega arith)

-- ---- a value from the bound on is out of range, unless a bad digit follows
module _ (radix bound : ℕ) where
  grown : (v d : ℕ) → bound ≤ v → d < radix → bound ≤ v * radix + d
  grown v d h k = let p : v * 1 ≤ v * radix = mul-le-mul {n₁ = v} {m₁ = 1} {n₂ = v} {m₂ = radix} (le_refl v) (omega arith) in omega arith

  too_large : (v : ℕ) (s : Text) → bound ≤ v → ranged (below bound) (digits radix v s) ≡ failed (past_bound radix s)
  unfolding digits ranged below past_bound digits_only
  too_large v [] h = rw (ranged, le-ltb v bound h)
  too_large v (b ∷ s) h = go (ltb (digit_value b) radix) refl (λ k. too_large (v * radix + digit_value b) s k)
    where
      go : (x : Bool) → ltb (digit_value b) radix ≡ x
          → (bound ≤ v * radix + digit_value b → ranged (below bound) (digits radix (v * radix + digit_value b) s) ≡ failed (past_bound radix s))
          → ranged (below bound) (digits radix v (b ∷ s)) ≡ failed (past_bound radix (b ∷ s))
      go true e next = rw (e, digits) (next (grown v (digit_value b) h (ltb-true (digit_value b) radix e)))
      go false e next = rw (e, digits)

-- ---- the reader at byte i, with the value v so far: the rest reads as the whole
pub record Midway (radix bound : ℕ) (t : Text) (v i : ℕ) : Type 0 where
  pub reached : i ≤ length t
  pub fits : v < 2 ^ 32
  pub small : 0 < i → v < bound
  pub same : some_digits radix t ≡ digits radix v (drop i t)

module _ (radix bound : ℕ) (t : Text) where
  pub empty : length t ≡ 0 → Err NoDigits ≡ number_of (ranged (below bound) (some_digits radix t))
  unfolding some_digits ranged
  empty h = rw (nothing t h)

  all_left : (t : Text) → (length t ≡ 0 → ⊥) → some_digits radix t ≡ digits radix 0 t
  unfolding some_digits
  all_left [] h = absurd (h refl)
  all_left (b ∷ s) h = refl

  pub begin : (length t ≡ 0 → ⊥) → Midway radix bound t 0 0
  begin h = record { reached = omega arith; fits = omega arith; small = λ k. omega arith; same = all_left t h }

module _ {radix bound : ℕ} {t : Text} {v i : ℕ} (r : Midway radix bound t v i) where
  pub end : (length t ≡ 0 → ⊥) → length t ≤ i → Ok v ≡ number_of (ranged (below bound) (some_digits radix t))
  unfolding digits ranged below
  end h k = rw (r.same, drop_of_length-le t k, ranged, lt-ltb v bound (r.small (omega arith)))

  -- the byte at i has the digit value d
  module _ (d : ℕ) (h : i < length t) (e : d ≡ digit_value (get_or t i 0)) where
    pub bad_digit_lem : radix ≤ d → Err BadDigit ≡ number_of (ranged (below bound) (some_digits radix t))
    unfolding digits ranged
    bad_digit_lem k = rw (r.same, drop-cons t i 0, ← e, le-ltb d radix k, digits)

    next : d < radix → some_digits radix t ≡ digits radix (v * radix + d) (drop (i + 1) t)
    unfolding digits
    next k = rw (r.same, add-one i, drop-cons t i 0, e, lt-ltb (digit_value (get_or t i 0)) radix (rw e at k), digits)

    pub past : {x : Failure} → d < radix → bound ≤ v * radix + d → x ≡ failure_of (past_bound radix (take (length t - (i + 1)) (drop (i + 1) t))) → Err x ≡ number_of (ranged (below bound) (some_digits radix t))
    past k l q = rw (next k, too_large radix bound (v * radix + d) (drop (i + 1) t) l) (ap Err (rw (rest (i + 1) t) at q))

    pub step : bound ≤ 2 ^ 32 → d < radix → v * radix + d < bound → Midway radix bound t (v * radix + d) (i + 1)
    step b k l = record { reached = omega arith; fits = omega arith; small = λ p. l; same = next k }

-- JMP's digits are decimal
pub decimal_digits : (t : Text) → digits_only 10 t ≡ all_digits t
unfolding digits_only all_digits
decimal_digits [] = refl
decimal_digits (b ∷ s) = rw (decimal_digits s)
