-- Laws of values: of a digit, and of a number, which the loop reads from its first digit on. Assumes nothing.
use Prim.Native.Nat.{ℕ, zero, suc, ◌+◌, ◌*◌, ◌/◌, ◌%◌, ◌^◌, ◌<◌, ◌≤◌}
use mathlib.Core.Path.{◌≡◌, refl, sym}
use mathlib.Core.Bool.{Bool, true, false, cond}
use mathlib.Core.List.{[], ◌∷◌, ◌++◌}
use native.Mathlib.Nat.{add-zero, pow-suc, pow-le-pow_right, zero-lt-suc, lt_of_lt_of_le}
use native.Mathlib.Numerals.{add-one}
use native.Mathlib.Omega.{arith}
use borrow.Author.Tests.{lt-ltb, le-ltb, ltb-true, ltb-false, le-leb, lt-leb}
use lib.Dec.{ltb}
use lib.ListN.{length, take, get_or}
use lib.Seq.{take-suc}
use Rattle.rules.specs.Text.{Text}
use Rattle.rules.specs.Number.{digit_value}
use Rattle.listing.specs.Listing.{digit_byte, digits_of, mark_byte}
use Rattle.listing.specs.Reading.{digit_in, hex_in}

-- ---- the digit value of a byte in a radix
module _ (radix b : ℕ) {d : ℕ} (e : d ≡ digit_value b) where
  pub is_digit : d < radix → d ≡ digit_in radix b
  unfolding digit_in
  is_digit h = rw (← e, lt-ltb d radix h)

  pub no_digit : radix ≤ d → 0 ≡ digit_in radix b
  unfolding digit_in
  no_digit h = rw (← e, le-ltb d radix h)

pub digit_small : (radix b : ℕ) → 0 < radix → digit_in radix b < radix
unfolding digit_in
digit_small radix b p = go (ltb (digit_value b) radix) refl
  where
    go : (x : Bool) → ltb (digit_value b) radix ≡ x → cond x (digit_value b) 0 < radix
    go true e = ltb-true (digit_value b) radix e
    go false e = p

pub digit_below : (radix b : ℕ) {d : ℕ} → d ≡ digit_in radix b → 0 < radix → d < radix
digit_below radix b e p = rw e (digit_small radix b p)

-- ---- what is written is read
decimal_value : (d : ℕ) → d < 10 → d ≡ digit_value (48 + d)
unfolding digit_value
decimal_value d h = simp (le-leb 48 (48 + d) (omega arith), le-leb (48 + d) 57 (omega arith)) (omega arith)

letter_value : (d : ℕ) → 10 ≤ d → d < 16 → d ≡ digit_value (55 + d)
unfolding digit_value
letter_value d h k = simp (le-leb 48 (55 + d) (omega arith), lt-leb (55 + d) 57 (omega arith), le-leb 65 (55 + d) (omega arith), le-leb (55 + d) 70 (omega arith)) (omega arith)

pub digit_read : (d : ℕ) → d < 16 → digit_in 16 (digit_byte d) ≡ d
unfolding digit_byte
digit_read d h = go (ltb d 10) refl
  where
    go : (y : Bool) → ltb d 10 ≡ y → digit_in 16 (digit_byte d) ≡ d
    go true e = rw e (sym (is_digit 16 (48 + d) (decimal_value d (ltb-true d 10 e)) h))
    go false e = rw e (sym (is_digit 16 (55 + d) (letter_value d (ltb-false d 10 e) h) h))

pub mark_read : (m : ℕ) → m < 10 → digit_in 10 (mark_byte m) ≡ m
unfolding mark_byte
mark_read m h = rw (lt-ltb m 10 h) (sym (is_digit 10 (48 + m) (decimal_value m h) h))

number_last : (v : ℕ) (s : Text) (b : ℕ) → hex_in v (s ++ (b ∷ [])) ≡ hex_in v s * 16 + digit_in 16 b
unfolding hex_in
number_last v [] b = refl
number_last v (a ∷ s) b = number_last (v * 16 + digit_in 16 a) s b

pub number_read : (k n : ℕ) → n < 16 ^ k → hex_in 0 (digits_of 16 k n) ≡ n
unfolding digits_of hex_in
number_read zero n h = omega arith
number_read (suc k) n h =
    let high = number_read k (n / 16) (omega (arith, pow-suc 16 k)) in
    rw (number_last 0 (digits_of 16 k (n / 16)) (digit_byte (n % 16)), high, digit_read (n % 16) (omega arith)) (omega arith)

-- ---- one digit more
pub digit_more : (v d i : ℕ) → v < 16 ^ i → d < 16 → v * 16 + d < 16 ^ suc i
digit_more v d i h k = omega (arith, pow-suc 16 i)

-- before the eighth digit there is room for one more in 32 bits
pub room_left : (v i : ℕ) → v < 16 ^ i → i < 8 → v < 2 ^ 28
room_left v i h k = lt_of_lt_of_le h (pow-le-pow_right (zero-lt-suc 15) {i = i} {j = 7} (omega arith))

number_grows : (i k v : ℕ) (t : Text) → v < 16 ^ i → hex_in v (take k t) < 16 ^ (i + k)
unfolding hex_in
number_grows i zero v t h = rw (add-zero i) h
number_grows i (suc k) v [] h = lt_of_lt_of_le h (pow-le-pow_right (zero-lt-suc 15) (omega arith))
number_grows i (suc k) v (b ∷ t) h =
    let next : i + suc k ≡ suc i + k = omega arith in
    rw next (number_grows (suc i) k (v * 16 + digit_in 16 b) t (digit_more v (digit_in 16 b) i h (digit_small 16 b (omega arith))))

pub number_small : (k : ℕ) (t : Text) → hex_in 0 (take k t) < 16 ^ k
number_small k t = let zeros : 0 + k ≡ k = omega arith in rw zeros at (number_grows 0 k 0 t (omega arith))

-- a digit more
pub hex_more : (t : Text) (i : ℕ) → i < length t → hex_in 0 (take (i + 1) t) ≡ hex_in 0 (take i t) * 16 + digit_in 16 (get_or t i 0)
hex_more t i h = rw (add-one i, take-suc t i 0 h) (number_last 0 (take i t) (get_or t i 0))
