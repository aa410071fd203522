-- The byte in front of a number: a sign, or an immediate's `#`. Assumes nothing.
use Rattle.std.specs.Prelude.{Option, None, Some, Result, Ok, Err}
use Rattle.std.specs.Option.{unwrap_or, option_map}
use Rattle.std.proofs.Common.{◌≡◌, ℕ, zero, suc, ◌+◌, ◌-◌, ◌<◌, ◌≤◌, Bool, true, false, eqb, ltb, [], ◌∷◌, length, get_or, take, drop, ℤ, pos, neg_ℤ, Bor, sym, refl, ap, ◌∙◌, arith, ltb-false, ltb-true, le-ltb, lt-ltb, eq-eqb, ne_eqb, eqb-true}
use borrow.Author.Tests.{eqb-false}
use Rattle.rules.specs.Text.{Text, after}
use Rattle.rules.specs.Number.{Failure as Fault, Reading, read, failed, some_digits, ranged, below, within, without, unsigned_reading, signed_reading}
use Rattle.rules.proofs.Readings.{in_range, out_of_range_lem}
use Rattle.numeral.specs.Number.{failure_of, number_of, signed_of}
use Rattle.numeral.specs.declared.Failure.{Failure}
use Rattle.numeral.specs.declared.Failure.TheVariants.{OutOfRange}
use Rattle.numeral.proofs.Reading.{nothing}
use Rattle.numeral.proofs.Prefix.{after_not, rest}

-- ---- what follows the first byte, as a slice has it
pub found : (b : ℕ) (t : Text) → 1 ≤ length t → get_or t 0 0 ≡ b → Some (take (length t - 1) (drop 1 t)) ≡ after (b ∷ []) t
unfolding after
found b [] h e = absurd (omega arith)
found b (c ∷ s) h e = rw (rest 1 (c ∷ s), eq-eqb b c (sym e), after)

pub other : (b : ℕ) (t : Text) → (get_or t 0 0 ≡ b → ⊥) → None ≡ after (b ∷ []) t
unfolding after
other b [] n = refl
other b (c ∷ s) n = sym (after_not b [] c s n)

pub no_byte : (b : ℕ) (t : Text) → length t < 1 → None ≡ after (b ∷ []) t
unfolding after
no_byte b t h = rw (nothing t (omega arith))

-- ---- the byte in front: b, or another
data Front (b c : ℕ) (s : Text) : Type 0 where
  alike : eqb c b ≡ true → after (b ∷ []) (c ∷ s) ≡ Some s → Front b c s
  unlike : eqb c b ≡ false → after (b ∷ []) (c ∷ s) ≡ None → Front b c s

front : (b c : ℕ) (s : Text) → Front b c s
unfolding after
front b c s = go (eqb b c) refl
  where
    go : (x : Bool) → eqb b c ≡ x → Front b c s
    go true e = alike (eq-eqb c b (sym (eqb-true b c e))) (rw (e, after))
    go false e = unlike (ne_eqb c b (λ k. eqb-false b c e (sym k))) (rw (e, after))

-- ---- a plus sign
without_is : (t : Text) → without 43 t ≡ unwrap_or (after (43 ∷ []) t) t
unfolding after without
without_is [] = refl
without_is (c ∷ s) = go (front 43 c s)
  where
    go : Front 43 c s → without 43 (c ∷ s) ≡ unwrap_or (after (43 ∷ []) (c ∷ s)) (c ∷ s)
    go (alike e f) = rw (f, e)
    go (unlike e f) = rw (f, e)

-- the text after it, as the code has it
pub digits_after : (o : Option (Bor Text)) (x : Bor Text) → option_map (λ r. r.now) o ≡ after (43 ∷ []) x.now → (unwrap_or o x).now ≡ without 43 x.now
digits_after None x e = rw (without_is x.now, ← e)
digits_after (Some r) x e = rw (without_is x.now, ← e)

-- ---- a minus sign, or none
module _ (radix bound : ℕ) where
  pub minus : (t : Text) {d : Text} → Some d ≡ after (45 ∷ []) t → signed_reading radix bound t ≡ ranged (λ v. within bound (neg_ℤ (pos v))) (some_digits radix d)
  unfolding after signed_reading
  minus [] e = cc
  minus (c ∷ s) {d} e = go (front 45 c s)
    where
      go : Front 45 c s → signed_reading radix bound (c ∷ s) ≡ ranged (λ v. within bound (neg_ℤ (pos v))) (some_digits radix d)
      go (alike f g) = let k : s ≡ d = cc in rw (f, signed_reading, k)
      go (unlike f g) = cc

  pub no_minus : (t : Text) → None ≡ after (45 ∷ []) t → signed_reading radix bound t ≡ ranged (λ v. within bound (pos v)) (some_digits radix (without 43 t))
  unfolding signed_reading without some_digits ranged
  no_minus [] e = refl
  no_minus (c ∷ s) e = go (front 45 c s)
    where
      go : Front 45 c s → signed_reading radix bound (c ∷ s) ≡ ranged (λ v. within bound (pos v)) (some_digits radix (without 43 (c ∷ s)))
      go (alike f g) = cc
      go (unlike f g) = rw (f, signed_reading)

-- ---- digits read below a bound: their value, or what failed
data Bounded (bound : ℕ) (d : Reading ℕ) (n : Result ℕ Failure) : Type 0 where
  small : {v : ℕ} → d ≡ read v → v < bound → n ≡ Ok v → Bounded bound d n
  large : {v : ℕ} → d ≡ read v → bound ≤ v → n ≡ Err OutOfRange → Bounded bound d n
  bad : (x : Fault) → d ≡ failed x → n ≡ Err (failure_of x) → Bounded bound d n

bounded : (bound : ℕ) (d : Reading ℕ) → Bounded bound d (number_of (ranged (below bound) d))
unfolding ranged below
bounded bound (failed x) = bad x refl refl
bounded bound (read v) = go (ltb v bound) refl
  where
    go : (x : Bool) → ltb v bound ≡ x → Bounded bound (read v) (number_of (ranged (below bound) (read v)))
    go true e = small refl (ltb-true v bound e) (rw (ranged, e))
    go false e = large refl (ltb-false v bound e) (rw (ranged, e))

module _ (bound : ℕ) (d : Reading ℕ) where
  pub value_below : {v : ℕ} → number_of (ranged (below bound) d) ≡ Ok v → (d ≡ read v) × (v < bound)
  value_below {v} e = go (bounded bound d)
    where
      go : Bounded bound d (number_of (ranged (below bound) d)) → (d ≡ read v) × (v < bound)
      go (small {v = w} f h q) = let k : w ≡ v = cc in (rw (← k) f, rw (← k) h)
      go (large f h q) = let k : ◌≡◌ {A = ℕ} 0 1 = cc in absurd (omega arith)
      go (bad x f q) = let k : ◌≡◌ {A = ℕ} 0 1 = cc in absurd (omega arith)

  -- the same digits in a type that has no value from the bound on
  pub as_signed : (g : ℕ → Option ℤ) → ((v : ℕ) → bound ≤ v → g v ≡ None) → {x : Failure} → number_of (ranged (below bound) d) ≡ Err x → Err x ≡ signed_of (ranged g d)
  unfolding ranged
  as_signed g n {x} e = go (bounded bound d)
    where
      go : Bounded bound d (number_of (ranged (below bound) d)) → Err x ≡ signed_of (ranged g d)
      go (small f h q) = let k : ◌≡◌ {A = ℕ} 0 1 = cc in absurd (omega arith)
      go (large {v} f h q) = let k : OutOfRange ≡ x = cc in rw (f, out_of_range_lem g v (n v h)) (ap Err (sym k))
      go (bad y f q) = let k : failure_of y ≡ x = cc in rw f (ap Err (sym k))

-- ---- -bound to bound - 1: after a minus sign the digits stay below bound + 1, and n is what is read of them
module _ (radix bound : ℕ) (t : Text) {d : Text} {n : Result ℕ Failure} (e : Some d ≡ after (45 ∷ []) t) (q : n ≡ number_of (ranged (below (bound + 1)) (some_digits radix d))) where
  pub negative_small : {v : ℕ} → n ≡ Ok v → v ≤ bound
  negative_small k = let l = (value_below (bound + 1) (some_digits radix d) (sym q ∙ k)).1 in omega arith

  in_reach : (v : ℕ) → 0 < bound → v ≤ bound → within bound (neg_ℤ (pos v)) ≡ Some (neg_ℤ (pos v))
  unfolding within
  in_reach zero h k = rw (lt-ltb 0 bound h)
  in_reach (suc v) h k = rw (lt-ltb v bound (omega arith))

  out_of_reach : (v : ℕ) → bound + 1 ≤ v → within bound (neg_ℤ (pos v)) ≡ None
  unfolding within
  out_of_reach zero k = absurd (omega arith)
  out_of_reach (suc v) k = rw (le-ltb v bound (omega arith))

  pub negative_read : {v : ℕ} {z : ℤ} → 0 < bound → n ≡ Ok v → z ≡ neg_ℤ (pos v) → Ok z ≡ signed_of (signed_reading radix bound t)
  negative_read {v} {z} h k y =
      let f = (value_below (bound + 1) (some_digits radix d) (sym q ∙ k)).0 in
      rw (minus radix bound t e, f, in_range (λ w. within bound (neg_ℤ (pos w))) v (in_reach v h (negative_small k))) (ap Ok y)

  pub negative_failed : {x : Failure} → n ≡ Err x → Err x ≡ signed_of (signed_reading radix bound t)
  negative_failed k = rw (minus radix bound t e) (as_signed (bound + 1) (some_digits radix d) (λ w. within bound (neg_ℤ (pos w))) out_of_reach (sym q ∙ k))

-- ---- else below bound
module _ (radix bound : ℕ) (t : Text) {n : Result ℕ Failure} (e : None ≡ after (45 ∷ []) t) (q : n ≡ number_of (unsigned_reading radix bound t)) where
  pub positive_small : {v : ℕ} → n ≡ Ok v → v < bound
  unfolding unsigned_reading
  positive_small k = (value_below bound (some_digits radix (without 43 t)) (sym q ∙ k)).1

  pub positive_read : {v : ℕ} → n ≡ Ok v → Ok (pos v) ≡ signed_of (signed_reading radix bound t)
  unfolding unsigned_reading within
  positive_read {v} k =
      let d = (value_below bound (some_digits radix (without 43 t)) (sym q ∙ k)).0 in
      let y : within bound (pos v) ≡ Some (pos v) = rw (lt-ltb v bound (positive_small k)) in
      rw (no_minus radix bound t e, d, in_range (λ w. within bound (pos w)) v y)

  pub positive_failed : {x : Failure} → n ≡ Err x → Err x ≡ signed_of (signed_reading radix bound t)
  unfolding unsigned_reading within
  positive_failed k =
      rw (no_minus radix bound t e) (as_signed bound (some_digits radix (without 43 t)) (λ w. within bound (pos w)) (λ v h. rw (le-ltb v bound h)) (sym q ∙ k))
