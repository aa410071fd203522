-- The number reader's four answers mean what the rules say, and a line's number is in its task exactly if it is read. Assumes nothing.
use Rattle.std.specs.Prelude.{Option, None, Some}
use Prim.Native.Nat.{ℕ, zero, suc, ◌+◌, ◌*◌, ◌^◌, ◌≤◌, ◌<◌}
use mathlib.Core.Path.{◌≡◌, refl, sym, ap, subst, ◌∙◌}
use mathlib.Core.Logic.{◌≢◌}
use mathlib.Core.Bool.{Bool, true, false, cond, ◌||◌, false≢true}
use mathlib.Core.List.{[], ◌∷◌}
use native.Mathlib.Nat.{add-mul, mul_assoc, mul_comm, pow-zero, pow-suc}
use native.Mathlib.Omega.{arith}
use lib.Dec.{eqb, ltb}
use lib.ListN.{length, get_or}
use lib.IntN.{ℤ, pos, negsuc, neg_ℤ}
use borrow.Author.Tests.{eqb-true, eqb-false, ne_eqb, lt-ltb, ltb-true, ltb-false}
use Rattle.rules.specs.Text.{Text, bytes, starts, after}
use Rattle.rules.specs.Number.{digit_value, bad_digit, out_of_range, Reading, read, failed, digits, some_digits, ranged, below, within, without, unsigned_reading, signed_reading, hex_tail, by_prefix, reading32, reading16, reading8, immediate}
use Rattle.rules.specs.Line.{reading_in}
use Rattle.rules.specs.Encode.{written_reading}
use Rattle.rules.proofs.Readings.{in_range, out_of_range_lem as beyond}
use Rattle.promises.specs.Readings.{Prefix, dollar, zero_x, no_prefix, Sign, plus, minus, no_sign, BadDigit, worth, Unsigned, below as fits, Signed, upwards, downwards, Answered, has_no_digits, has_bad_digit, has_out_of_range, is_read, Means, MeansPrefixed, MeansPiece, missing, present, MeansImmediate, no_hash, hash, MeansWritten, no_sign_first, sign_first, Means32, Means16, Means8, Exactly, ReadingsMean, SignsNotAllowed}

-- ---- the digits
no_bad : {radix : ℕ} → ¬ BadDigit radix []
no_bad b = let h = b.inside in omega arith

bad_here : {radix b : ℕ} {s : Text} → radix ≤ digit_value b → BadDigit radix (b ∷ s)
bad_here h = record { place = 0; inside = omega arith; no_digit = h }

bad_later : {radix b : ℕ} {s : Text} → BadDigit radix s → BadDigit radix (b ∷ s)
bad_later d = record { place = suc d.place; inside = omega (arith, d.inside); no_digit = d.no_digit }

not_bad : {radix b : ℕ} {s : Text} → digit_value b < radix → ¬ BadDigit radix s → ¬ BadDigit radix (b ∷ s)
not_bad {radix} {b} {s} h n d = go d.place d.inside d.no_digit
  where
    go : (i : ℕ) → i < suc (length s) → radix ≤ digit_value (get_or (b ∷ s) i 0) → ⊥
    go zero l k = omega arith
    go (suc i) l k = n (record { place = i; inside = omega arith; no_digit = k })

-- digits after the value v so far: bad somewhere, or worth what they are, after v
pub data Told (radix v : ℕ) (s : Text) (r : Reading ℕ) : Type 0 where
  good : ¬ BadDigit radix s → r ≡ read (v * radix ^ length s + worth radix s) → Told radix v s r
  wrong : BadDigit radix s → r ≡ failed bad_digit → Told radix v s r

-- one digit more
carried : (radix v d n w : ℕ) → (v * radix + d) * radix ^ n + w ≡ v * radix ^ suc n + (d * radix ^ n + w)
carried radix v d n w = rw (add-mul (v * radix) d (radix ^ n), mul_assoc v radix (radix ^ n), mul_comm radix (radix ^ n), pow-suc radix n) (omega arith)

pub digits_told : (radix v : ℕ) (s : Text) → Told radix v s (digits radix v s)
unfolding digits worth
digits_told radix v [] = good no_bad (ap read (rw (pow-zero radix) (omega arith)))
digits_told radix v (b ∷ s) = go (ltb (digit_value b) radix) refl (digits_told radix (v * radix + digit_value b) s)
  where
    on : {r : Reading ℕ} → digit_value b < radix → Told radix (v * radix + digit_value b) s r → Told radix v (b ∷ s) r
    on h (good n e) = good (not_bad h n) (e ∙ ap read (carried radix v (digit_value b) (length s) (worth radix s)))
    on h (wrong d e) = wrong (bad_later d) e

    go : (x : Bool) → ltb (digit_value b) radix ≡ x → Told radix (v * radix + digit_value b) s (digits radix (v * radix + digit_value b) s)
        → Told radix v (b ∷ s) (elim x [ true ↦ digits radix (v * radix + digit_value b) s | false ↦ failed bad_digit ])
    go true e t = on (ltb-true (digit_value b) radix e) t
    go false e t = wrong (bad_here (ltb-false (digit_value b) radix e)) refl

-- ---- a type as f makes its values: it has the value v exactly if Has says so
data Typed {A : Type 0} (Has : ℕ → A → Type 0) (v : ℕ) (o : Option A) : Type 0 where
  has : {a : A} → Has v a → ((b : A) → Has v b → a ≡ b) → o ≡ Some a → Typed Has v o
  hasn't : ((a : A) → ¬ Has v a) → o ≡ None → Typed Has v o

pub filled : (b : ℕ) (s : Text) → b ∷ s ≢ []
filled b s e = let h : suc (length s) ≡ 0 = ap length e in omega arith

module _ {A : Type 0} (f : ℕ → Option A) (Has : ℕ → A → Type 0) (typed : (v : ℕ) → Typed Has v (f v)) (radix : ℕ) where
  -- after no value so far they are worth what they are
  plain : (d : Text) → 0 * radix ^ length d + worth radix d ≡ worth radix d
  plain d = omega arith

  -- digits that are all good
  in_type : {d : Text} → d ≢ [] → ¬ BadDigit radix d → Answered radix Has d (ranged f (read (worth radix d)))
  in_type {d} n g = go (typed (worth radix d))
    where
      go : Typed Has (worth radix d) (f (worth radix d)) → Answered radix Has d (ranged f (read (worth radix d)))
      go (has h u q) = rw (in_range f _ q) (is_read n g h)
      go (hasn't h q) = rw (beyond f _ q) (has_out_of_range n g h)

  answered : (d : Text) → Answered radix Has d (ranged f (some_digits radix d))
  unfolding some_digits ranged
  answered [] = has_no_digits refl
  answered (b ∷ s) = go (digits_told radix 0 (b ∷ s))
    where
      go : {r : Reading ℕ} → Told radix 0 (b ∷ s) r → Answered radix Has (b ∷ s) (ranged f r)
      go (good n e) = rw (e, plain (b ∷ s)) (in_type (filled b s) n)
      go (wrong d e) = rw e (has_bad_digit d)

  -- and no other answer is right
  out_of_type : (v : ℕ) → ((a : A) → ¬ Has v a) → ranged f (read v) ≡ failed out_of_range
  out_of_type v n = go (typed v)
    where
      go : Typed Has v (f v) → ranged f (read v) ≡ failed out_of_range
      go (has {a} h u q) = absurd (n a h)
      go (hasn't h q) = beyond f v q

  of_type : (v : ℕ) (a : A) → Has v a → ranged f (read v) ≡ read a
  of_type v a k = go (typed v)
    where
      go : Typed Has v (f v) → ranged f (read v) ≡ read a
      go (has h u q) = in_range f v q ∙ ap read (u a k)
      go (hasn't h q) = absurd (h a k)

  only_answer : (d : Text) (r : Reading A) → Answered radix Has d r → ranged f (some_digits radix d) ≡ r
  unfolding some_digits ranged
  only_answer [] r (has_no_digits e) = refl
  only_answer [] r (has_bad_digit x) = absurd (no_bad x)
  only_answer [] r (has_out_of_range n g h) = absurd (n refl)
  only_answer [] r (is_read n g h) = absurd (n refl)
  only_answer (b ∷ s) r x = go (digits_told radix 0 (b ∷ s)) x
    where
      go : {r : Reading A} {q : Reading ℕ} → Told radix 0 (b ∷ s) q → Answered radix Has (b ∷ s) r → ranged f q ≡ r
      go t (has_no_digits e) = absurd (filled b s e)
      go (good n e) (has_bad_digit x) = absurd (n x)
      go (wrong d e) (has_bad_digit x) = rw e
      go (good n e) (has_out_of_range m g h) = rw (e, plain (b ∷ s)) (out_of_type (worth radix (b ∷ s)) h)
      go (wrong d e) (has_out_of_range m g h) = absurd (g d)
      go (good n e) (is_read {a} m g h) = rw (e, plain (b ∷ s)) (of_type (worth radix (b ∷ s)) a h)
      go (wrong d e) (is_read m g h) = absurd (g d)

-- ---- the types, by the sign: an unsigned one has no value after `−`
unsigned_as : ℕ → Bool → ℕ → Option ℕ
unsigned_as bound true v = None
unsigned_as bound false v = below bound v

unsigned_typed : (bound : ℕ) (n : Bool) (v : ℕ) → Typed (Unsigned bound n) v (unsigned_as bound n v)
unfolding unsigned_as below
unsigned_typed bound true v = hasn't (λ a u. elim u [ ]) refl
unsigned_typed bound false v = go (ltb v bound) refl
  where
    same : (w : ℕ) → Unsigned bound false v w → v ≡ w
    same w (fits h) = refl

    outside : bound ≤ v → (w : ℕ) → ¬ Unsigned bound false v w
    outside k w (fits h) = omega arith

    go : (x : Bool) → ltb v bound ≡ x → Typed (Unsigned bound false) v (cond x (Some v) None)
    go true e = has (fits (ltb-true v bound e)) same refl
    go false e = hasn't (outside (ltb-false v bound e)) refl

signed_as : ℕ → Bool → ℕ → Option ℤ
signed_as bound true v = within bound (neg_ℤ (pos v))
signed_as bound false v = within bound (pos v)

signed_typed : (bound : ℕ) → 0 < bound → (n : Bool) (v : ℕ) → Typed (Signed bound n) v (signed_as bound n v)
unfolding signed_as within
signed_typed bound b false v = go (ltb v bound) refl
  where
    same : (z : ℤ) → Signed bound false v z → pos v ≡ z
    same z (upwards h) = refl

    outside : bound ≤ v → (z : ℤ) → ¬ Signed bound false v z
    outside k z (upwards h) = omega arith

    go : (x : Bool) → ltb v bound ≡ x → Typed (Signed bound false) v (cond x (Some (pos v)) None)
    go true e = has (upwards (ltb-true v bound e)) same refl
    go false e = hasn't (outside (ltb-false v bound e)) refl
signed_typed bound b true zero = rw (lt-ltb 0 bound b) (has (downwards {v = 0} (omega arith)) same refl)
  where
    same : (z : ℤ) → Signed bound true 0 z → pos 0 ≡ z
    same z (downwards h) = refl
signed_typed bound b true (suc v) = go (ltb v bound) refl
  where
    same : (z : ℤ) → Signed bound true (suc v) z → negsuc v ≡ z
    same z (downwards h) = refl

    outside : bound ≤ v → (z : ℤ) → ¬ Signed bound true (suc v) z
    outside k z (downwards h) = omega arith

    go : (x : Bool) → ltb v bound ≡ x → Typed (Signed bound true) (suc v) (cond x (Some (negsuc v)) None)
    go true e = let h = ltb-true v bound e in has (downwards {v = suc v} (omega arith)) same refl
    go false e = hasn't (outside (ltb-false v bound e)) refl

-- ---- signs
other_way : (b c : ℕ) → eqb b c ≡ false → eqb c b ≡ false
other_way b c e = ne_eqb c b (λ p. eqb-false b c e (sym p))

first : (c b : ℕ) (s : Text) → eqb c b ≡ true → b ∷ s ≡ c ∷ s
first c b s e = ap (λ (x : ℕ). x ∷ s) (sym (eqb-true c b e))

record SignOf (signed : Bool) (s : Text) : Type 0 where
  negative : Bool
  rest : Text
  sign : Sign signed s negative rest

sign_of : (signed : Bool) (s : Text) → SignOf signed s
unfolding starts bytes
sign_of signed [] = record { negative = false; rest = []; sign = no_sign refl (λ e. refl) }
sign_of signed (b ∷ s) = go signed (eqb 43 b) refl (eqb 45 b) refl
  where
    go : (signed x : Bool) → eqb 43 b ≡ x → (y : Bool) → eqb 45 b ≡ y → SignOf signed (b ∷ s)
    go k true e y f = record { negative = false; rest = s; sign = plus (first 43 b s e) }
    go true false e true f = record { negative = true; rest = s; sign = minus refl (first 45 b s f) }
    go true false e false f = record { negative = false; rest = b ∷ s; sign = no_sign {s = b ∷ s} (rw (e, starts)) (λ q. rw (f, starts)) }
    go false false e y f = record { negative = false; rest = b ∷ s; sign = no_sign {s = b ∷ s} (rw (e, starts)) (λ q. absurd (false≢true q)) }

-- a text that does not start with c
not_first : (c b : ℕ) (s : Text) → starts (c ∷ []) (b ∷ s) ≡ false → eqb b c ≡ false
unfolding starts
not_first c b s e = go (eqb c b) refl
  where
    go : (x : Bool) → eqb c b ≡ x → eqb b c ≡ false
    go true f = absurd (false≢true (sym (rw (f, starts) at e)))
    go false f = other_way c b f

nothing_off : (s : Text) → starts (bytes "+") s ≡ false → without 43 s ≡ s
unfolding without bytes
nothing_off [] e = refl
nothing_off (b ∷ s) e = rw (not_first 43 b s e)

module _ (radix bound : ℕ) where
  unsigned_by : (s d : Text) (n : Bool) → Sign false s n d → unsigned_reading radix bound s ≡ ranged (unsigned_as bound n) (some_digits radix d)
  unfolding unsigned_reading unsigned_as without bytes
  unsigned_by s d n (plus e) = rw e
  unsigned_by s d n (minus q e) = absurd (false≢true q)
  unsigned_by s d n (no_sign e k) = rw (nothing_off s e)

  signed_by : (s d : Text) (n : Bool) → Sign true s n d → signed_reading radix bound s ≡ ranged (signed_as bound n) (some_digits radix d)
  unfolding signed_reading signed_as without bytes some_digits ranged
  signed_by s d n (plus e) = rw e
  signed_by s d n (minus q e) = rw e
  signed_by s d n (no_sign e k) = bare s e (k refl)
    where
      bare : (s : Text) → starts (bytes "+") s ≡ false → starts (bytes "-") s ≡ false → signed_reading radix bound s ≡ ranged (λ v. within bound (pos v)) (some_digits radix s)
      bare [] e f = refl
      bare (b ∷ s) e f = rw (not_first 45 b s f, signed_reading, nothing_off (b ∷ s) e)

-- an answer that is right, and no other that is
exactly_by : {A B : Type 0} {f : A → B} {P : A → B → Type 0} → ((s : A) → P s (f s)) → ((s : A) (r : B) → P s r → f s ≡ r) → Exactly f P
exactly_by {P = P} there back s r = (λ e. subst (P s) e (there s), back s r)

-- a reader that goes by the sign
module _ {A : Type 0} {signed : Bool} {radix : ℕ} {reader : Text → Reading A} (f : Bool → ℕ → Option A) (Has : Bool → ℕ → A → Type 0)
    (typed : (n : Bool) (v : ℕ) → Typed (Has n) v (f n v))
    (by_sign_lem : (s d : Text) (n : Bool) → Sign signed s n d → reader s ≡ ranged (f n) (some_digits radix d)) where
  exactly : Exactly reader (Means signed Has radix)
  exactly = exactly_by there back
    where
      there : (s : Text) → Means signed Has radix s (reader s)
      there s =
          let g = sign_of signed s in
          record {
            negative = g.negative;
            rest = g.rest;
            sign = g.sign;
            answered = rw (by_sign_lem s g.rest g.negative g.sign) (answered (f g.negative) (Has g.negative) (typed g.negative) radix g.rest);
          }

      back : (s : Text) (r : Reading A) → Means signed Has radix s r → reader s ≡ r
      back s r m =
          by_sign_lem s m.rest m.negative m.sign
          ∙ only_answer (f m.negative) (Has m.negative) (typed m.negative) radix m.rest r m.answered

-- ---- prefixes
record PrefixOf (s : Text) : Type 0 where
  radix : ℕ
  rest : Text
  prefix : Prefix s radix rest

prefix_of : (s : Text) → PrefixOf s
unfolding starts bytes
prefix_of [] = record { radix = 10; rest = []; prefix = no_prefix refl refl }
prefix_of (b ∷ s) = go (eqb 36 b) refl (eqb 48 b) refl s
  where
    go : (x : Bool) → eqb 36 b ≡ x → (y : Bool) → eqb 48 b ≡ y → (s : Text) → PrefixOf (b ∷ s)
    go true e y f s = record { radix = 16; rest = s; prefix = dollar (first 36 b s e) }
    go false e false f s = record { radix = 10; rest = b ∷ s; prefix = no_prefix {s = b ∷ s} (rw (e, starts)) (rw (f, starts)) }
    go false e true f [] = record { radix = 10; rest = b ∷ []; prefix = no_prefix {s = b ∷ []} (rw (e, starts)) (rw (f, starts)) }
    go false e true f (c ∷ t) = on (eqb 120 c) refl
      where
        on : (z : Bool) → eqb 120 c ≡ z → PrefixOf (b ∷ c ∷ t)
        on true g = record { radix = 16; rest = t; prefix = zero_x (first 48 b (c ∷ t) f ∙ ap (λ (x : Text). 48 ∷ x) (first 120 c t g)) }
        on false g = record { radix = 10; rest = b ∷ c ∷ t; prefix = no_prefix {s = b ∷ c ∷ t} (rw (e, starts)) (rw (f, g, starts)) }

no_tail : (p s : Text) → starts p s ≡ false → after p s ≡ None
unfolding starts after
no_tail [] s e = absurd (false≢true (sym e))
no_tail (a ∷ p) [] e = refl
no_tail (a ∷ p) (b ∷ s) e = go (eqb a b) refl (no_tail p s)
  where
    go : (x : Bool) → eqb a b ≡ x → (starts p s ≡ false → after p s ≡ None) → after (a ∷ p) (b ∷ s) ≡ None
    go true f ih = rw (f, after) (ih (rw (f, starts) at e))
    go false f ih = rw (f, after)

prefix_by : {A : Type 0} (f : ℕ → Text → A) (s : Text) (radix : ℕ) (t : Text) → Prefix s radix t → by_prefix f s ≡ f radix t
unfolding by_prefix hex_tail after bytes
prefix_by f s radix t (dollar e) = ap (by_prefix f) e
prefix_by f s radix t (zero_x e) = ap (by_prefix f) e
prefix_by f s radix t (no_prefix e g) = rw (by_prefix, hex_tail, no_tail (bytes "$") s e, no_tail (bytes "0x") s g)

-- a reader that goes by the prefix
module _ {A : Type 0} {signed : Bool} {Has : Bool → ℕ → A → Type 0} (f : ℕ → Text → Reading A) (h : (radix : ℕ) → Exactly (f radix) (Means signed Has radix)) where
  exactly_prefixed : Exactly (by_prefix f) (MeansPrefixed signed Has)
  exactly_prefixed = exactly_by there back
    where
      there : (s : Text) → MeansPrefixed signed Has s (by_prefix f s)
      there s =
          let p = prefix_of s in
          record {
            radix = p.radix;
            rest = p.rest;
            prefix = p.prefix;
            means = (h p.radix p.rest (by_prefix f s)).0 (sym (prefix_by f s p.radix p.rest p.prefix));
          }

      back : (s : Text) (r : Reading A) → MeansPrefixed signed Has s r → by_prefix f s ≡ r
      back s r m = prefix_by f s m.radix m.rest m.prefix ∙ (h m.radix m.rest r).1 m.means

-- ---- each type, and each place that asks
unsigned_exactly : (radix bound : ℕ) → Exactly (unsigned_reading radix bound) (Means false (Unsigned bound) radix)
unsigned_exactly radix bound = exactly (unsigned_as bound) (Unsigned bound) (unsigned_typed bound) (unsigned_by radix bound)

signed_exactly : (radix bound : ℕ) → 0 < bound → Exactly (signed_reading radix bound) (Means true (Signed bound) radix)
signed_exactly radix bound h = exactly (signed_as bound) (Signed bound) (signed_typed bound h) (signed_by radix bound)

unsigned_prefixed : (bound : ℕ) → Exactly (by_prefix (λ r t. unsigned_reading r bound t)) (MeansPrefixed false (Unsigned bound))
unsigned_prefixed bound = exactly_prefixed (λ r t. unsigned_reading r bound t) (λ r. unsigned_exactly r bound)

means_32 : Exactly reading32 Means32
unfolding reading32
means_32 = unsigned_prefixed (2 ^ 32)

means_16 : Exactly reading16 Means16
unfolding reading16
means_16 = unsigned_prefixed (2 ^ 16)

means_8 : Exactly reading8 Means8
unfolding reading8
means_8 = exactly_prefixed (λ r t. signed_reading r 128 t) (λ r. signed_exactly r 128 (omega arith))

means_piece : Exactly reading_in (MeansPiece Means32)
unfolding reading_in
means_piece = exactly_by there back
  where
    there : (o : Option Text) → MeansPiece Means32 o (reading_in o)
    there None = missing
    there (Some s) = present ((means_32 s (reading32 s)).0 refl)

    back : (o : Option Text) (r : Reading ℕ) → MeansPiece Means32 o r → reading_in o ≡ r
    back o r missing = refl
    back o r (present {s} m) = (means_32 s r).1 m

module _ {A : Type 0} {f : Text → Reading A} {P : Text → Reading A → Type 0} (h : Exactly f P) where
  means_immediate : Exactly (immediate f) (MeansImmediate P)
  unfolding immediate starts after bytes
  means_immediate = exactly_by there back
    where
      there : (s : Text) → MeansImmediate P s (immediate f s)
      there [] = no_hash refl
      there (b ∷ s) = go (eqb 35 b) refl
        where
          go : (x : Bool) → eqb 35 b ≡ x → MeansImmediate P (b ∷ s) (immediate f (b ∷ s))
          go true e = rw (e, immediate, after) (hash (first 35 b s e) ((h s (f s)).0 refl))
          go false e = rw (e, immediate, after) (no_hash {s = b ∷ s} (rw (e, starts)))

      back : (s : Text) (o : Option (Reading A)) → MeansImmediate P s o → immediate f s ≡ o
      back s o (no_hash e) = rw (immediate, no_tail (bytes "#") s e)
      back s o (hash {t = t} {r = r} e m) = ap (immediate f) e ∙ ap Some ((h t r).1 m)

means_written : Exactly written_reading (MeansWritten (Means true (Signed 128) 10))
unfolding written_reading
means_written = exactly_by (λ s. there s (starts (bytes "+") s || starts (bytes "-") s) refl) back
  where
    there : (s : Text) (x : Bool) → (starts (bytes "+") s || starts (bytes "-") s) ≡ x → MeansWritten (Means true (Signed 128) 10) s (written_reading s)
    there s true e = rw e (sign_first e ((signed_exactly 10 128 (omega arith) s (signed_reading 10 128 s)).0 refl))
    there s false e = rw e (no_sign_first e)

    back : (s : Text) (o : Option (Reading ℤ)) → MeansWritten (Means true (Signed 128) 10) s o → written_reading s ≡ o
    back s o (no_sign_first e) = rw e
    back s o (sign_first {r = r} e m) = rw e (ap Some ((signed_exactly 10 128 (omega arith) s r).1 m))

pub readings_mean : ReadingsMean
readings_mean =
    record {
      unsigned = unsigned_exactly;
      signed = signed_exactly;
      of_32_bits = means_32;
      of_16_bits = means_16;
      of_8_bits = means_8;
      of_a_piece = means_piece;
      of_immediates_16 = means_immediate means_16;
      of_immediates_8 = means_immediate means_8;
      of_branches = means_written;
    }

-- ---- a sign in front of the digits is no digit
sign_is_bad : (radix : ℕ) (d : Text) → radix ≤ 16 → (starts (bytes "+") d || starts (bytes "-") d) ≡ true → BadDigit radix d
unfolding starts bytes digit_value
sign_is_bad radix [] h e = absurd (false≢true e)
sign_is_bad radix (b ∷ s) h e = go (eqb 43 b) refl (eqb 45 b) refl
  where
    go : (x : Bool) → eqb 43 b ≡ x → (y : Bool) → eqb 45 b ≡ y → BadDigit radix (b ∷ s)
    go true f y g = bad_here (rw (sym (eqb-true 43 b f)) (omega arith))
    go false f true g = bad_here (rw (sym (eqb-true 45 b g)) (omega arith))
    go false f false g = absurd (false≢true (rw (f, g, starts) at e))

pub signs_not_allowed : SignsNotAllowed
signs_not_allowed =
    record {
      unsigned = λ radix bound s n d h g e. (unsigned_exactly radix bound s (failed bad_digit)).1 (record { negative = n; rest = d; sign = g; answered = has_bad_digit (sign_is_bad radix d h e) });
      signed = λ radix bound s n d h k g e. (signed_exactly radix bound k s (failed bad_digit)).1 (record { negative = n; rest = d; sign = g; answered = has_bad_digit (sign_is_bad radix d h e) });
    }
