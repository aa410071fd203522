-- Sums in DC: a number without a sign is read exactly if it is one or more good digits after its prefix, and no byte of it is an operator;
-- and a number in front of a text is the bytes before the first operator. Assumes nothing.
use Rattle.std.specs.Prelude.{None, Some}
use Prim.Native.Nat.{ℕ, suc, ◌+◌, ◌*◌, ◌≤◌, ◌<◌}
use mathlib.Core.Path.{◌≡◌, refl, sym, ap, ◌∙◌}
use mathlib.Core.Logic.{◌≢◌}
use mathlib.Core.Bool.{Bool, true, false, ◌||◌, cond, false≢true}
use mathlib.Core.List.{List, [], ◌∷◌, ◌++◌}
use native.Mathlib.Omega.{arith}
use lib.Dec.{eqb, ltb}
use lib.ListN.{length, drop}
use lib.Seq.{drop-append_seam}
use borrow.Author.Tests.{eqb-true, lt-ltb, ltb-true}
use Rattle.rules.specs.Text.{Text, bytes, on_first, cut_where, starts, after, first_text}
use Rattle.rules.specs.Number.{digit_value, Reading, read, failed, out_of_range, digits, some_digits, ranged, below, without, unsigned_reading, hex_tail, by_prefix, reading32}
use Rattle.rules.specs.Sum.{parsed, numeral, is_times, is_sign, is_operator, plain_number, as_number, number_first}
use Rattle.rules.proofs.Readings.{in_range}
use Rattle.promises.specs.Readings.{Prefix, dollar, zero_x, no_prefix, Sign, plus, minus, no_sign, BadDigit, worth, Unsigned, below as fits, Answered, is_read}
use Rattle.promises.proofs.Compared.{clash}
use Rattle.promises.proofs.Readings.{readings_mean}

-- ---- digits: what the promise of readings says of them after a plus sign, below a bound that they just meet
-- good digits worth v
pub record Good (radix : ℕ) (d : Text) (v : ℕ) : Type 0 where
  pub some_digit : d ≢ []
  pub no_bad : ¬ BadDigit radix d
  pub is : v ≡ worth radix d

just_below : (v : ℕ) → below (suc v) v ≡ Some v
unfolding below
just_below v = rw (lt-ltb v (suc v) (omega arith))

same_value : {bound v w : ℕ} → Unsigned bound false v w → w ≡ v
same_value (fits h) = refl

answered_good : {radix bound v : ℕ} {d : Text} → Answered radix (Unsigned bound false) d (read v) → Good radix d v
answered_good (is_read n g h) = record { some_digit = n; no_bad = g; is = same_value h }

signed_good : {radix bound v : ℕ} {s d r : Text} {n : Bool} → Sign false s n r → s ≡ 43 ∷ d → Answered radix (Unsigned bound n) r (read v) → Good radix d v
unfolding bytes starts
signed_good {d = d} {r = r} (plus e) q a = let w : r ≡ d = cc in answered_good (rw w at a)
signed_good (minus e f) q a = absurd (false≢true e)
signed_good (no_sign e f) q a = let c = rw q at e in absurd (false≢true (sym c))

module _ (radix : ℕ) (d : Text) where
  behind_plus : (v : ℕ) → unsigned_reading radix (suc v) (43 ∷ d) ≡ ranged (below (suc v)) (some_digits radix d)
  unfolding unsigned_reading without
  behind_plus v = refl

  digits_good : (v : ℕ) → some_digits radix d ≡ read v → Good radix d v
  digits_good v e =
      let m = (readings_mean.unsigned radix (suc v) (43 ∷ d) (read v)).0 (behind_plus v ∙ rw e (in_range (below (suc v)) v (just_below v))) in
      signed_good m.sign refl m.answered

  -- a value below a bound is the digits'
  only_read : (v : ℕ) (x : Reading ℕ) → ranged (below (suc v)) x ≡ read v → x ≡ read v
  unfolding ranged below
  only_read v (failed f) e = cc
  only_read v (read w) e = go (ltb w (suc v)) refl e
    where
      go : (y : Bool) → ltb w (suc v) ≡ y → ◌≡◌ {A = Reading ℕ} (elim (cond y (Some w) None) [ None ↦ failed out_of_range | Some a ↦ read a ]) (read v) → read w ≡ read v
      go true q e = e
      go false q e = cc

  good_digits : {v : ℕ} → Good radix d v → some_digits radix d ≡ read v
  unfolding bytes
  good_digits {v} g =
      only_read v (some_digits radix d) (sym (behind_plus v) ∙ (readings_mean.unsigned radix (suc v) (43 ∷ d) (read v)).1 (record {
        negative = false;
        rest = d;
        sign = plus refl;
        answered = rw g.is (is_read g.some_digit g.no_bad (fits {v = worth radix d} (omega arith)));
      }))

-- ---- prefixes
no_tail : (p s : Text) → starts p s ≡ false → after p s ≡ None
unfolding starts after
no_tail [] s e = absurd (false≢true (sym e))
no_tail (a ∷ p) [] e = refl
no_tail (a ∷ p) (b ∷ s) e = go (eqb a b) refl (no_tail p s)
  where
    go : (x : Bool) → eqb a b ≡ x → (starts p s ≡ false → after p s ≡ None) → after (a ∷ p) (b ∷ s) ≡ None
    go true f ih = rw (f, after) (ih (rw (f, starts) at e))
    go false f ih = rw (f, after)

by_prefix_lem : {s t : Text} {radix : ℕ} → Prefix s radix t → plain_number s ≡ some_digits radix t
unfolding plain_number by_prefix hex_tail after bytes
by_prefix_lem (dollar e) = ap plain_number e
by_prefix_lem (zero_x e) = ap plain_number e
by_prefix_lem {s} (no_prefix e g) = rw (plain_number, by_prefix, hex_tail, no_tail (bytes "$") s e, no_tail (bytes "0x") s g)

-- a number that is read: its prefix and its digits
pub record Plain (s : Text) (v : ℕ) : Type 0 where
  pub radix : ℕ
  pub rest : Text
  pub prefix : Prefix s radix rest
  pub good : Good radix rest v

pub plain_read : (s : Text) (v : ℕ) → plain_number s ≡ read v → Plain s v
plain_read s v e =
    let m = (readings_mean.of_32_bits s (reading32 s)).0 refl in
    record { radix = m.radix; rest = m.rest; prefix = m.prefix; good = digits_good m.radix m.rest v (sym (by_prefix_lem m.prefix) ∙ e) }

pub read_plain : {s : Text} {v : ℕ} → Plain s v → plain_number s ≡ read v
read_plain p = by_prefix_lem p.prefix ∙ good_digits p.radix p.rest p.good

-- ---- no byte of a number is an operator
pub data Solid : Text → Type 0 where
  empty : Solid []
  solid : {b : ℕ} {s : Text} → is_operator b ≡ false → Solid s → Solid (b ∷ s)

not_a_digit : (b k : ℕ) → 16 ≤ digit_value k → eqb b k ≡ true → digit_value b < 16 → ⊥
not_a_digit b k l e h = let z : digit_value k < 16 = rw (eqb-true b k e) at h in omega arith

no_digits_lem : (16 ≤ digit_value 42) × (16 ≤ digit_value 43) × (16 ≤ digit_value 45) × (16 ≤ digit_value 40) × (16 ≤ digit_value 41) × (16 ≤ digit_value 93)
unfolding digit_value
no_digits_lem = omega arith

no_operator : (b : ℕ) → digit_value b < 16 → is_operator b ≡ false
unfolding is_operator is_times is_sign
no_operator b h = go (eqb b 42) refl (eqb b 43) refl (eqb b 45) refl (eqb b 40) refl (eqb b 41) refl (eqb b 93) refl
  where
    go : (p : Bool) → eqb b 42 ≡ p → (q : Bool) → eqb b 43 ≡ q → (r : Bool) → eqb b 45 ≡ r → (s : Bool) → eqb b 40 ≡ s
        → (t : Bool) → eqb b 41 ≡ t → (u : Bool) → eqb b 93 ≡ u → p || (q || r) || s || t || u ≡ false
    go true e q f r g s k t l u m = absurd (not_a_digit b 42 no_digits_lem.0 e h)
    go false e true f r g s k t l u m = absurd (not_a_digit b 43 no_digits_lem.1 f h)
    go false e false f true g s k t l u m = absurd (not_a_digit b 45 no_digits_lem.2 g h)
    go false e false f false g true k t l u m = absurd (not_a_digit b 40 no_digits_lem.3 k h)
    go false e false f false g false k true l u m = absurd (not_a_digit b 41 no_digits_lem.4 l h)
    go false e false f false g false k false l true m = absurd (not_a_digit b 93 no_digits_lem.5 m h)
    go false e false f false g false k false l false m = refl

digits_solid : (radix v : ℕ) (s : Text) (x : ℕ) → radix ≤ 16 → digits radix v s ≡ read x → Solid s
unfolding digits
digits_solid radix v [] x h e = empty
digits_solid radix v (b ∷ s) x h e = go (ltb (digit_value b) radix) refl (λ q. digits_solid radix (v * radix + digit_value b) s x h q) e
  where
    go : (y : Bool) → ltb (digit_value b) radix ≡ y → (digits radix (v * radix + digit_value b) s ≡ read x → Solid s) → digits radix v (b ∷ s) ≡ read x → Solid (b ∷ s)
    go true q ih e = let k : digit_value b < radix = ltb-true (digit_value b) radix q in solid (no_operator b (omega arith)) (ih (rw (q, digits) at e))
    go false q ih e = let c = rw (q, digits) at e in clash cc

some_digits_solid : (radix : ℕ) (s : Text) (x : ℕ) → radix ≤ 16 → some_digits radix s ≡ read x → Solid s
unfolding some_digits
some_digits_solid radix [] x h e = empty
some_digits_solid radix (b ∷ s) x h e = digits_solid radix 0 (b ∷ s) x h e

prefix_solid : {s t : Text} {radix : ℕ} → Prefix s radix t → (radix ≤ 16 → Solid t) → Solid s
unfolding bytes is_operator is_times is_sign
prefix_solid (dollar e) h = rw e (solid refl (h (omega arith)))
prefix_solid (zero_x e) h = rw e (solid refl (solid refl (h (omega arith))))
prefix_solid (no_prefix e g) h = h (omega arith)

pub plain_solid : {s : Text} {v : ℕ} → Plain s v → Solid s
plain_solid {v = v} p = prefix_solid p.prefix (λ h. some_digits_solid p.radix p.rest v h (good_digits p.radix p.rest p.good))

pub plain_some : {s : Text} {v : ℕ} → Plain s v → s ≢ []
unfolding bytes
plain_some p e = go p.prefix e p.good.some_digit
  where
    go : {s t : Text} {radix : ℕ} → Prefix s radix t → s ≡ [] → t ≢ [] → ⊥
    go (dollar e) q n = clash cc
    go (zero_x e) q n = clash cc
    go (no_prefix e g) q n = n q

-- ---- a number in front
-- what may stand after it
pub data Ends : Text → Type 0 where
  end : Ends []
  operator : {c : ℕ} {r : Text} → is_operator c ≡ true → Ends (c ∷ r)

first_on : (b : ℕ) (ps : List Text) → first_text (on_first b ps) ≡ b ∷ first_text ps
unfolding on_first first_text
first_on b [] = refl
first_on b (p ∷ ps) = refl

module _ (f : ℕ → Bool) where
  -- the text before the first byte that passes is a front of the text
  pub first_front : (s : Text) → s ≡ first_text (cut_where f s) ++ drop (length (first_text (cut_where f s))) s
  unfolding cut_where first_text
  first_front [] = refl
  first_front (b ∷ s) = go (f b) refl (first_front s)
    where
      go : (y : Bool) → f b ≡ y → s ≡ first_text (cut_where f s) ++ drop (length (first_text (cut_where f s))) s
          → b ∷ s ≡ first_text (cut_where f (b ∷ s)) ++ drop (length (first_text (cut_where f (b ∷ s)))) (b ∷ s)
      go true e ih = rw (e, cut_where)
      go false e ih = rw (e, cut_where, first_on b (cut_where f s)) (ap (λ (t : Text). b ∷ t) ih)

first_solid : {s : Text} → Solid s → (r : Text) → Ends r → first_text (cut_where is_operator (s ++ r)) ≡ s
unfolding cut_where first_text
first_solid empty [] end = refl
first_solid empty (c ∷ r) (operator o) = rw (o, cut_where)
first_solid (solid {b} {s} n h) r e = rw (n, cut_where, first_on b (cut_where is_operator (s ++ r))) (ap (λ (t : Text). b ∷ t) (first_solid h r e))

pub number_first_lem : {s : Text} {v : ℕ} → Plain s v → (r : Text) → Ends r → number_first (s ++ r) ≡ parsed (numeral v) r
unfolding number_first as_number
number_first_lem {s} p r e = rw (first_solid (plain_solid p) r e, drop-append_seam s r, read_plain p)
