-- Digits as a row shows them: a digit's byte, and numbers in a fixed count of digits and in decimal. Assumes nothing.
use Prim.Native.Nat.{ℕ, zero, suc, ◌+◌, ◌*◌, ◌/◌, ◌%◌, ◌^◌, ◌<◌, ◌≤◌}
use mathlib.Core.Path.{◌≡◌, refl, sym, ap, ◌∙◌}
use mathlib.Core.Bool.{Bool, true, false, ◌&&◌}
use mathlib.Core.List.{[], ◌∷◌, ◌++◌}
use native.Mathlib.Nat.{pow-suc}
use native.Mathlib.Omega.{arith}
use borrow.Author.Tests.{lt-ltb, ltb-true, ltb-false, le-leb, lt-leb}
use lib.Dec.{ltb}
use lib.ListN.{length, length-append}
use Rattle.rules.specs.Text.{Text}
use Rattle.promises.proofs.Compared.{clash}
use Rattle.listing.specs.Listing.{digit_byte, digits_of, decimal_places_by, decimal}
use Rattle.promises_texts.specs.Labels.{digit_shown, only_digits, value_after}

-- ---- a digit's byte shows it
figure_is : (d : ℕ) → d < 10 → digit_shown (48 + d) ≡ d
unfolding digit_shown
figure_is d h = simp (le-leb 48 (48 + d) (omega arith), le-leb (48 + d) 57 (omega arith)) (omega arith)

letter_is : (d : ℕ) → 10 ≤ d → d < 16 → digit_shown (55 + d) ≡ d
unfolding digit_shown
letter_is d h k = simp (le-leb 48 (55 + d) (omega arith), lt-leb (55 + d) 57 (omega arith), le-leb 65 (55 + d) (omega arith), le-leb (55 + d) 70 (omega arith)) (omega arith)

pub digit_is : (d : ℕ) → d < 16 → digit_shown (digit_byte d) ≡ d
unfolding digit_byte
digit_is d h = go (ltb d 10) refl
  where
    go : (y : Bool) → ltb d 10 ≡ y → digit_shown (digit_byte d) ≡ d
    go true e = rw e (figure_is d (ltb-true d 10 e))
    go false e = rw e (letter_is d (ltb-false d 10 e) h)

-- ---- nothing but digits
pub both : (x y : Bool) → (x && y) ≡ true → (x ≡ true) × (y ≡ true)
both true y e = (refl, e)
both false y e = clash cc

pub only_cons : (radix b : ℕ) (s : Text) → digit_shown b < radix → only_digits radix s ≡ true → only_digits radix (b ∷ s) ≡ true
unfolding only_digits
only_cons radix b s h k = rw (only_digits, lt-ltb (digit_shown b) radix h, k) refl

pub only_append : (radix : ℕ) (s t : Text) → only_digits radix s ≡ true → only_digits radix t ≡ true → only_digits radix (s ++ t) ≡ true
unfolding only_digits
only_append radix [] t h k = k
only_append radix (b ∷ s) t h k =
    let p = both (ltb (digit_shown b) radix) (only_digits radix s) h in
    only_cons radix b (s ++ t) (ltb-true (digit_shown b) radix p.0) (only_append radix s t p.1 k)

-- a digit more at the end
pub value_last : (radix v b : ℕ) (s : Text) → value_after radix v (s ++ (b ∷ [])) ≡ radix * value_after radix v s + digit_shown b
unfolding value_after
value_last radix v b [] = refl
value_last radix v b (a ∷ s) = value_last radix (radix * v + digit_shown a) b s

only_last : (radix d : ℕ) (s : Text) → radix ≤ 16 → d < radix → only_digits radix s ≡ true → only_digits radix (s ++ (digit_byte d ∷ [])) ≡ true
unfolding only_digits
only_last radix d s h k e = only_append radix s (digit_byte d ∷ []) e (only_cons radix (digit_byte d) [] (rw (digit_is d (omega arith)) k) refl)

-- ---- an address
pub address_length : (k n : ℕ) → length (digits_of 16 k n) ≡ k
unfolding digits_of
address_length zero n = refl
address_length (suc k) n =
    rw (length-append (digits_of 16 k (n / 16)) (digit_byte (n % 16) ∷ []), address_length k (n / 16)) (omega arith)

pub address_only : (k n : ℕ) → only_digits 16 (digits_of 16 k n) ≡ true
unfolding digits_of only_digits
address_only zero n = refl
address_only (suc k) n = only_last 16 (n % 16) (digits_of 16 k (n / 16)) (omega arith) (omega arith) (address_only k (n / 16))

pub address_is : (k n : ℕ) → n < 16 ^ k → value_after 16 0 (digits_of 16 k n) ≡ n
unfolding digits_of value_after
address_is zero n h = omega (arith, h)
address_is (suc k) n h =
    let high = address_is k (n / 16) (omega (arith, pow-suc 16 k)) in
    rw (value_last 16 0 (digit_byte (n % 16)) (digits_of 16 k (n / 16)), high, digit_is (n % 16) (omega arith)) (omega arith)

-- ---- a number in decimal
pub record Numeral (n : ℕ) (t : Text) : Type 0 where
  pub only : only_digits 10 t ≡ true
  pub some : 0 < length t
  pub value : value_after 10 0 t ≡ n
  pub led : (s : Text) → t ≡ 48 ∷ s → n ≡ 0
  pub short : n < 10 → length t ≡ 1

one_digit : (n : ℕ) → n < 10 → Numeral n (digits_of 10 1 n)
unfolding digits_of value_after only_digits digit_shown
one_digit n h =
    let q : n % 10 ≡ n = omega arith in
    let d = digit_is n (omega arith) in
    rw q
    (record {
      only = only_cons 10 (digit_byte n) [] (rw d h) refl;
      some = omega arith;
      value = rw d (omega arith);
      led = λ s e. let b : digit_byte n ≡ 48 = cc in sym d ∙ (ap digit_shown b);
      short = λ k. refl;
    })

head_of : (s : Text) (b : ℕ) (u : Text) → 0 < length s → s ++ (b ∷ []) ≡ 48 ∷ u → (v : Text) × (s ≡ 48 ∷ v)
head_of [] b u h e = absurd (omega arith)
head_of (c ∷ s) b u h e = let k : c ≡ 48 = cc in (s, rw k refl)

more_digits : (k n : ℕ) → 10 ≤ n → Numeral (n / 10) (digits_of 10 k (n / 10)) → Numeral n (digits_of 10 (suc k) n)
unfolding digits_of
more_digits k n h m =
    record {
      only = only_last 10 (n % 10) (digits_of 10 k (n / 10)) (omega arith) (omega arith) m.only;
      some = rw (length-append (digits_of 10 k (n / 10)) (digit_byte (n % 10) ∷ [])) (omega arith);
      value = rw (value_last 10 0 (digit_byte (n % 10)) (digits_of 10 k (n / 10)), m.value, digit_is (n % 10) (omega arith)) (omega arith);
      led = λ s e. let z = head_of (digits_of 10 k (n / 10)) (digit_byte (n % 10)) s m.some e in let q : n / 10 ≡ 0 = m.led z.0 z.1 in absurd (omega arith);
      short = λ k. absurd (omega arith);
    }

numeral : (steps n : ℕ) → n ≤ steps → Numeral n (digits_of 10 (decimal_places_by steps n) n)
unfolding decimal_places_by
numeral zero n h = one_digit n (omega arith)
numeral (suc steps) n h = go (ltb n 10) refl (λ k. numeral steps (n / 10) k)
  where
    go : (y : Bool) → ltb n 10 ≡ y → (n / 10 ≤ steps → Numeral (n / 10) (digits_of 10 (decimal_places_by steps (n / 10)) (n / 10)))
        → Numeral n (digits_of 10 (decimal_places_by (suc steps) n) n)
    go true e ih = rw (decimal_places_by, e) (one_digit n (ltb-true n 10 e))
    go false e ih = let l = ltb-false n 10 e in rw (decimal_places_by, e) (more_digits (decimal_places_by steps (n / 10)) n l (ih (omega arith)))

pub decimal_is : (n : ℕ) → Numeral n (decimal n)
unfolding decimal
decimal_is n = numeral n n (omega arith)

-- no 0 stands in front of another digit
pub no_zeros : {n : ℕ} {t : Text} → Numeral n t → (b : ℕ) (s : Text) → ¬ (t ≡ 48 ∷ b ∷ s)
no_zeros m b s e = let none = m.led (b ∷ s) e in let one = m.short (omega arith) in let two : length (48 ∷ b ∷ s) ≡ 1 = rw e at one in absurd (omega arith)
