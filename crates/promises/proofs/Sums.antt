-- Sums in DC: a text reads as a value, as out of range or as a bad digit exactly as the grammar and whole numbers say; and the examples.
-- Assumes nothing.
use Rattle.std.specs.Prelude.{Option, None, Some}
use Prim.Native.Nat.{ℕ, zero, suc, ◌+◌, ◌-◌, ◌*◌, ◌^◌, ◌<◌, ◌≤◌}
use mathlib.Core.Path.{◌≡◌, refl, sym, ap, subst, ◌∙◌}
use mathlib.Core.Bool.{Bool, true, false, cond}
use native.Mathlib.Omega.{arith}
use lib.Dec.{leb, ltb}
use lib.IntN.{ℤ, pos, negsuc, sub_ℕ, ◌-ℤ◌}
use borrow.Author.Tests.{ltb-true, ltb-false, lt-ltb, le-ltb, leb-true, leb-false}
use Rattle.rules.specs.Text.{Text, bytes, blank, upper, uppers, trim_start, keep_end, trim_end, trim, on_first, cut_where, drop_empty, pieces, join_more, joined, in_front, first_cut, starts, contains, after, nth, first_text}
use Rattle.rules.specs.Number.{digit_value, bad_digit, out_of_range, Reading, read, failed, digits, some_digits, ranged, below, without, unsigned_reading, hex_tail, by_prefix, reading32}
use Rattle.rules.specs.Sum.{Expression, numeral, group, sum, difference, product, and_parse, applied, chain_by, chain, series, is_times, is_sign, is_operator, plain_number, as_number, number_first, paren_closed, atom_of, ended, bracketed, stepped, sum_step, difference_step, product_step, exact_value, ranging, evaluated, sum_reading}
use Rattle.rules.specs.Line.{reading_in, value_reading, value_reading_in, is_directive}
use Rattle.rules.specs.Directive.{piece_directive, directive_of, data_reading, after_colon, trimmed_reading, line_reading}
use Rattle.promises.specs.Readings.{MeansPiece, missing, present}
use Rattle.promises.specs.Sums.{Derives, depth, whole_value, Fits, InRange, MeansSum, has_value, leaves_range, no_sum, MeansValue, bracket_first, no_bracket_first, SumsMean, samples_of_sums, samples_of_sum_lines, SumExamples}
use Rattle.promises.proofs.Compared.{clash}
use Rattle.promises.proofs.Readings.{readings_mean}
use Rattle.promises.proofs.SumRead.{bracketed_sound}
use Rattle.promises.proofs.SumDerived.{bracketed_complete, one_expression}

-- ---- the steps, and whole numbers
-- what the steps say of an expression is true in whole numbers
data Told (a : Expression) : Option ℕ → Type 0 where
  inside : {v : ℕ} → InRange a → whole_value a ≡ pos v → v < 2 ^ 32 → Told a (Some v)
  outside : ¬ InRange a → Told a None

pos_is : {m n : ℕ} → pos m ≡ pos n → m ≡ n
pos_is e = cc

-- an expression whose value is k, and which is in range if that fits
module _ (a : Expression) (k : ℕ) (e : whole_value a ≡ pos k) (there : Fits (whole_value a) → InRange a) (back : InRange a → Fits (whole_value a)) where
  low_told : k < 2 ^ 32 → Told a (Some k)
  low_told h = inside (there (record { amount = k; is = e; low = h })) e h

  not_in : 2 ^ 32 ≤ k → ¬ InRange a
  not_in h r = let f = back r in let q : k ≡ f.amount = pos_is (sym e ∙ f.is) in omega (arith, f.low)

  below_told : Told a (below (2 ^ 32) k)
  unfolding below
  below_told = go (ltb k (2 ^ 32)) refl
    where
      go : (y : Bool) → ltb k (2 ^ 32) ≡ y → Told a (cond y (Some k) None)
      go true q = low_told (ltb-true k (2 ^ 32) q)
      go false q = outside (not_in (ltb-false k (2 ^ 32) q))

less_is : (v w : ℕ) → pos v -ℤ pos w ≡ sub_ℕ v w
less_is v zero = rw (le-ltb v 0 (omega arith)) (ap pos (omega arith))
less_is v (suc w) = refl

not_negative : {n : ℕ} {z : ℤ} → z ≡ negsuc n → ¬ Fits z
not_negative e f = let q = f.is in clash cc

module _ (a : Expression) (v w : ℕ) (e : whole_value a ≡ pos v -ℤ pos w) (low : v < 2 ^ 32) (there : Fits (whole_value a) → InRange a) (back : InRange a → Fits (whole_value a)) where
  above : w ≤ v → whole_value a ≡ pos (v - w)
  above h = e ∙ less_is v w ∙ rw (le-ltb v w h)

  under : v < w → whole_value a ≡ negsuc (w - suc v)
  under h = e ∙ less_is v w ∙ rw (lt-ltb v w h)

  subtracted_told : Told a (difference_step v w)
  unfolding difference_step
  subtracted_told = go (leb w v) refl
    where
      go : (y : Bool) → leb w v ≡ y → Told a (cond y (Some (v - w)) None)
      go true q = low_told a (v - w) (above (leb-true w v q)) there back (omega arith)
      go false q = outside (λ r. not_negative (under (leb-false w v q)) (back r))

-- a step between two
module _ {a b c : Expression} (f : ℕ → ℕ → Option ℕ) (first : InRange c → InRange a) (second : InRange c → InRange b)
    (both : (v w : ℕ) → InRange a → InRange b → whole_value a ≡ pos v → whole_value b ≡ pos w → v < 2 ^ 32 → Told c (f v w)) where
  step_told : {x y : Option ℕ} → Told a x → Told b y → Told c (stepped f x y)
  unfolding stepped
  step_told (outside n) q = outside (λ r. n (first r))
  step_told (inside i e l) (outside n) = outside (λ r. n (second r))
  step_told (inside {v} i e l) (inside {v = w} j g m) = both v w i j e g l

worth_told : (a : Expression) → Told a (exact_value a)
unfolding exact_value InRange whole_value sum_step product_step
worth_told (numeral v) = below_told (numeral v) v refl (λ r. r) (λ r. r)
worth_told (group a) = go (worth_told a)
  where
    go : {o : Option ℕ} → Told a o → Told (group a) o
    go (inside r e l) = inside r e l
    go (outside n) = outside n
worth_told (sum a b) =
    step_told {a = a} {b = b} {c = sum a b} sum_step (λ r. r.0) (λ r. r.1)
    (λ v w i j e g l. below_told (sum a b) (v + w) (rw (e, g)) (λ r. (i, j, r)) (λ r. r.2))
    (worth_told a) (worth_told b)
worth_told (difference a b) =
    step_told {a = a} {b = b} {c = difference a b} difference_step (λ r. r.0) (λ r. r.1)
    (λ v w i j e g l. subtracted_told (difference a b) v w (rw (e, g)) l (λ r. (i, j, r)) (λ r. r.2))
    (worth_told a) (worth_told b)
worth_told (product a b) =
    step_told {a = a} {b = b} {c = product a b} product_step (λ r. r.0) (λ r. r.1)
    (λ v w i j e g l. below_told (product a b) (v * w) (rw (e, g)) (λ r. (i, j, r)) (λ r. r.2))
    (worth_told a) (worth_told b)

-- ---- the reading
told_means : {t : Text} {a : Expression} {o : Option ℕ} → Derives t a → depth a ≤ 16 → Told a o → MeansSum t (ranging o)
unfolding ranging
told_means d h (inside r e l) = has_value d h r e
told_means d h (outside n) = leaves_range d h n

ranged_value : {a : Expression} {o : Option ℕ} {v : ℕ} → Told a o → InRange a → whole_value a ≡ pos v → ranging o ≡ read v
unfolding ranging
ranged_value (inside r e l) i q = ap read (pos_is (sym e ∙ q))
ranged_value (outside n) i q = absurd (n i)

ranged_outside : {a : Expression} {o : Option ℕ} → Told a o → ¬ InRange a → ranging o ≡ failed out_of_range
unfolding ranging
ranged_outside (inside r e l) n = absurd (n r)
ranged_outside (outside n) m = refl

means : (t : Text) → MeansSum t (sum_reading t)
unfolding sum_reading evaluated
means t = go (bracketed t) refl
  where
    go : (o : Option Expression) → bracketed t ≡ o → MeansSum t (evaluated o)
    go None e = no_sum (λ a d h. let q = bracketed_complete d h in clash cc)
    go (Some a) e = let k = bracketed_sound t a e in told_means k.derives k.deep (worth_told a)

only : (t : Text) (r : Reading ℕ) → MeansSum t r → sum_reading t ≡ r
unfolding sum_reading evaluated
only t r (has_value {a} d h i e) = rw (bracketed_complete d h) (ranged_value (worth_told a) i e)
only t r (leaves_range {a} d h n) = rw (bracketed_complete d h) (ranged_outside (worth_told a) n)
only t r (no_sum n) = go (bracketed t) refl
  where
    go : (o : Option Expression) → bracketed t ≡ o → evaluated o ≡ failed bad_digit
    go None e = refl
    go (Some a) e = let k = bracketed_sound t a e in absurd (n a k.derives k.deep)

-- ---- DC's value
value_means : (t : Text) → MeansValue t (value_reading t)
unfolding value_reading
value_means t = go (starts (bytes "[") t) refl
  where
    go : (x : Bool) → starts (bytes "[") t ≡ x → MeansValue t (cond x (sum_reading t) (reading32 t))
    go true e = bracket_first e (means t)
    go false e = no_bracket_first e ((readings_mean.of_32_bits t (reading32 t)).0 refl)

value_only : (t : Text) (r : Reading ℕ) → MeansValue t r → value_reading t ≡ r
unfolding value_reading
value_only t r (bracket_first e m) = rw e (only t r m)
value_only t r (no_bracket_first e m) = rw e ((readings_mean.of_32_bits t r).1 m)

piece_means : (o : Option Text) → MeansPiece MeansValue o (value_reading_in o)
unfolding value_reading_in
piece_means None = missing
piece_means (Some t) = present (value_means t)

piece_only : (o : Option Text) (r : Reading ℕ) → MeansPiece MeansValue o r → value_reading_in o ≡ r
unfolding value_reading_in
piece_only o r missing = refl
piece_only o r (present {s} m) = value_only s r m

pub sums_mean : SumsMean
sums_mean =
    record {
      of_a_sum = λ t r. (λ e. subst (MeansSum t) e (means t), only t r);
      of_a_value = λ t r. (λ e. subst (MeansValue t) e (value_means t), value_only t r);
      of_a_piece = λ o r. (λ e. subst (MeansPiece MeansValue o) e (piece_means o), piece_only o r);
      one_expression = one_expression;
    }

-- what is read is below 2^32
pub sum_low : (t : Text) (v : ℕ) → sum_reading t ≡ read v → v < 2 ^ 32
unfolding sum_reading evaluated ranging
sum_low t v e = go (bracketed t) e
  where
    told : {a : Expression} {o : Option ℕ} → Told a o → ranging o ≡ read v → v < 2 ^ 32
    told (inside {v = w} r f l) q = let z : w ≡ v = cc in omega arith
    told (outside n) q = clash cc

    go : (o : Option Expression) → evaluated o ≡ read v → v < 2 ^ 32
    go None q = clash cc
    go (Some a) q = told (worth_told a) q

-- ---- the examples
pub sum_examples : SumExamples
unfolding samples_of_sums samples_of_sum_lines bytes blank upper uppers trim_start keep_end trim_end trim on_first cut_where drop_empty pieces join_more joined in_front first_cut starts contains after nth first_text digit_value below digits some_digits hex_tail by_prefix and_parse applied chain_by chain series is_times is_sign is_operator plain_number as_number number_first paren_closed atom_of ended bracketed stepped sum_step difference_step product_step exact_value ranging evaluated sum_reading without ranged unsigned_reading reading32 reading_in value_reading value_reading_in is_directive piece_directive directive_of data_reading after_colon trimmed_reading line_reading
sum_examples = record { of_sums = refl; lines_agree = refl }
