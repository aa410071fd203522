-- Signed numbers, remainders, ranges and flags as the statements of steps say them, of what the machine's definitions compute. Assumes nothing.
use Prim.Native.Nat.{ℕ, zero, suc, ◌-◌, ◌/◌, ◌%◌, ◌<◌, ◌≤◌}
use mathlib.Core.Path.{◌≡◌, refl, sym, ◌∙◌, ap}
use mathlib.Core.Bool.{Bool, true, false, cond, not, false≢true}
use mathlib.Core.Logic.{◌↔◌, ◌⊎◌, inl, inr}
use native.Mathlib.Omega.{arith}
use native.Mathlib.Nat.{mod-lt, mod-add-div', mod-eq_of_lt, mul-le-mul}
use borrow.Author.Differences.{ints}
use lib.Dec.{ltb, leb, eqb}
use lib.IntN.{ℤ, pos, negsuc, sub_ℕ, neg_ℤ, ◌-ℤ◌, ◌*ℤ◌}
use lib.Signed.{◌≤ℤ◌, ◌<ℤ◌}
use borrow.Author.Tests.{lt-ltb, le-ltb, ltb-true, ltb-false, leb-true, le-leb, eqb-true, eq-eqb}
use Rattle.rules.specs.Number.{modulo}
use Rattle.manual.specs.Manual.{sign_by}
use Rattle.machine.specs.Flags.{fits_in}
use Rattle.machine.specs.declared.Flags.{Flags}
use Rattle.promises_bench.specs.Steps.{signed_as, InRange, Reduced, ByResult}

-- the two readings of two's complement
pub signed_byte : (n : ℕ) → sign_by 128 n ≡ signed_as 8 n
unfolding sign_by signed_as
signed_byte n = refl

pub signed_word : (n : ℕ) → sign_by 32768 n ≡ signed_as 16 n
unfolding sign_by signed_as
signed_word n = refl

pub signed_long : (n : ℕ) → sign_by 2147483648 n ≡ signed_as 32 n
unfolding sign_by signed_as
signed_long n = refl

pub signed_small : (k : ℕ) → k ≤ 8 → sign_by 2147483648 k ≡ pos k
unfolding sign_by
signed_small k l = rw (lt-ltb k 2147483648 (omega arith))

-- a difference
pub minus : (a b : ℕ) → sub_ℕ a b ≡ pos a -ℤ pos b
minus a zero = let z : a - 0 ≡ a = omega arith in rw (le-ltb a 0 (omega arith), z) (omega (ints, arith))
minus a (suc b) = refl

-- what is taken modulo m
pub reduced : (m : ℕ) (z : ℤ) → 0 < m → Reduced m z (modulo m z)
unfolding modulo
reduced m (pos n) h = record { below = mod-lt n h; times = pos (n / m); away = ap pos (sym (mod-add-div' n m)) }
reduced m (negsuc n) h =
    let r = mod-add-div' n m in
    let l : n % m < m = mod-lt n h in
    record { below = omega arith; times = negsuc (n / m); away = omega (ints, arith) }

-- ranges
range_in : (h : ℕ) (z : ℤ) → 0 < h → fits_in h z ≡ true → (neg_ℤ (pos h) ≤ℤ z) × (z <ℤ pos h)
unfolding fits_in
range_in h (pos n) l e = let k = ltb-true n h e in (omega (ints, arith), omega (ints, arith))
range_in h (negsuc n) l e = let k = ltb-true n h e in (omega (ints, arith), omega (ints, arith))

range_out : (h : ℕ) (z : ℤ) → 0 < h → fits_in h z ≡ false → (z <ℤ neg_ℤ (pos h)) ⊎ (pos h ≤ℤ z)
unfolding fits_in
range_out h (pos n) l e = let k = ltb-false n h e in inr (omega (ints, arith))
range_out h (negsuc n) l e = let k = ltb-false n h e in inl (omega (ints, arith))

outside : (h : ℕ) (z : ℤ) → 0 < h → (z <ℤ neg_ℤ (pos h)) ⊎ (pos h ≤ℤ z) → (neg_ℤ (pos h) ≤ℤ z) → (z <ℤ pos h) → ⊥
outside h z l (inl o) a b = omega (ints, arith)
outside h z l (inr o) a b = omega (ints, arith)

pub in_word : (z : ℤ) → fits_in 32768 z ≡ true → InRange 16 z
in_word z e = let r = range_in 32768 z (omega arith) e in record { least = r.0; most = r.1 }

pub out_word : (z : ℤ) → fits_in 32768 z ≡ false → (z <ℤ neg_ℤ (pos 32768)) ⊎ (pos 32768 ≤ℤ z)
out_word z e = range_out 32768 z (omega arith) e

pub in_long : (z : ℤ) → fits_in 2147483648 z ≡ true → InRange 32 z
in_long z e = let r = range_in 2147483648 z (omega arith) e in record { least = r.0; most = r.1 }

pub not_word : (z : ℤ) → fits_in 32768 z ≡ false → ¬ InRange 16 z
not_word z e i = outside 32768 z (omega arith) (out_word z e) i.least i.most

pub not_long : (z : ℤ) → fits_in 2147483648 z ≡ false → ¬ InRange 32 z
not_long z e i = outside 2147483648 z (omega arith) (range_out 2147483648 z (omega arith) e) i.least i.most

-- a test of what is so exactly if it is false
denied : (b : Bool) (P : Type 0) → (b ≡ true → P) → (b ≡ false → ¬ P) → (not b ≡ true) ↔ (¬ P)
denied true P y n = ((λ e. absurd (false≢true e)), (λ f. absurd (f (y refl))))
denied false P y n = ((λ e. n refl), (λ f. refl))

allowed : (b : Bool) (P : Type 0) → (b ≡ true → P) → (b ≡ false → ¬ P) → (not b ≡ false) ↔ P
allowed true P y n = ((λ e. y refl), (λ f. refl))
allowed false P y n = ((λ e. absurd (false≢true (sym e))), (λ f. absurd (n refl f)))

pub overflow_word : (z : ℤ) → (not (fits_in 32768 z) ≡ true) ↔ (¬ InRange 16 z)
overflow_word z = denied (fits_in 32768 z) (InRange 16 z) (in_word z) (not_word z)

pub overflow_long : (z : ℤ) → (not (fits_in 2147483648 z) ≡ true) ↔ (¬ InRange 32 z)
overflow_long z = denied (fits_in 2147483648 z) (InRange 32 z) (in_long z) (not_long z)

pub fits_long : (z : ℤ) → (not (fits_in 2147483648 z) ≡ false) ↔ InRange 32 z
fits_long z = allowed (fits_in 2147483648 z) (InRange 32 z) (in_long z) (not_long z)

-- N and Z by a result
pub negative_word : (n : ℕ) → n < 65536 → (leb 32768 n ≡ true) ↔ (signed_as 16 n <ℤ pos 0)
unfolding signed_as
negative_word n l = go (ltb n 32768) refl
  where
    go : (x : Bool) → ltb n 32768 ≡ x → (leb 32768 n ≡ true) ↔ (cond x (pos n) (pos n -ℤ pos 65536) <ℤ pos 0)
    go true e = let k = ltb-true n 32768 e in ((λ f. let g = leb-true 32768 n f in absurd (omega arith)), (λ f. absurd (omega (ints, arith))))
    go false e = let k = ltb-false n 32768 e in ((λ f. omega (ints, arith)), (λ f. le-leb 32768 n k))

pub negative_long : (n : ℕ) → n < 4294967296 → (leb 2147483648 n ≡ true) ↔ (signed_as 32 n <ℤ pos 0)
unfolding signed_as
negative_long n l = go (ltb n 2147483648) refl
  where
    go : (x : Bool) → ltb n 2147483648 ≡ x → (leb 2147483648 n ≡ true) ↔ (cond x (pos n) (pos n -ℤ pos 4294967296) <ℤ pos 0)
    go true e = let k = ltb-true n 2147483648 e in ((λ f. let g = leb-true 2147483648 n f in absurd (omega arith)), (λ f. absurd (omega (ints, arith))))
    go false e = let k = ltb-false n 2147483648 e in ((λ f. omega (ints, arith)), (λ f. le-leb 2147483648 n k))

pub test_zero : (n : ℕ) → (eqb n 0 ≡ true) ↔ (n ≡ 0)
test_zero n = (eqb-true n 0, eq-eqb n 0)

pub test_less : (a b : ℕ) → (ltb a b ≡ true) ↔ (a < b)
test_less a b = (ltb-true a b, lt-ltb a b)

pub test_at_most : (a b : ℕ) → (leb a b ≡ true) ↔ (a ≤ b)
test_at_most a b = (leb-true a b, le-leb a b)

-- flags of a result with a long or a word
pub word_marks : (f : Flags) (r : ℕ) → r < 65536 → f.n ≡ leb 32768 r → f.z ≡ eqb r 0 → ByResult 16 r f
word_marks f r l a b = record { negative = rw a (negative_word r l); zero = rw b (test_zero r) }

pub long_marks : (f : Flags) (r : ℕ) → r < 4294967296 → f.n ≡ leb 2147483648 r → f.z ≡ eqb r 0 → ByResult 32 r f
long_marks f r l a b = record { negative = rw a (negative_long r l); zero = rw b (test_zero r) }

-- what 32 bits hold is read back
pub read_high : (n : ℕ) → 2147483648 ≤ n → signed_as 32 n ≡ pos n -ℤ pos 4294967296
unfolding signed_as
read_high n l = rw (le-ltb n 2147483648 l)

negated : (n : ℕ) → n < 4294967296 → pos (4294967296 - suc n) -ℤ pos 4294967296 ≡ negsuc n
negated n l = omega (ints, arith)

pub read_long : (z : ℤ) → InRange 32 z → signed_as 32 (modulo 4294967296 z) ≡ z
unfolding signed_as modulo
read_long (pos n) i =
    let k = i.most in
    let l : n < 2147483648 = omega (ints, arith) in
    let m : n % 4294967296 ≡ n = mod-eq_of_lt (omega arith) in
    rw (m, lt-ltb n 2147483648 l) refl
read_long (negsuc n) i =
    let k = i.least in
    let l : n < 2147483648 = omega (ints, arith) in
    let m : n % 4294967296 ≡ n = mod-eq_of_lt (omega arith) in
    rw m (read_high (4294967296 - suc n) (omega arith) ∙ negated n (omega arith))

-- what fits in 32 bits
pub moveq_range : (b : ℕ) → b < 256 → InRange 32 (signed_as 8 b)
unfolding signed_as
moveq_range b l = go (ltb b 128) refl
  where
    go : (x : Bool) → ltb b 128 ≡ x → InRange 32 (cond x (pos b) (pos b -ℤ pos 256))
    go true e = let k = ltb-true b 128 e in record { least = omega (ints, arith); most = omega (ints, arith) }
    go false e = let k = ltb-false b 128 e in record { least = omega (ints, arith); most = omega (ints, arith) }

word_range : (n : ℕ) → n < 65536 → InRange 16 (signed_as 16 n)
unfolding signed_as
word_range n l = go (ltb n 32768) refl
  where
    go : (x : Bool) → ltb n 32768 ≡ x → InRange 16 (cond x (pos n) (pos n -ℤ pos 65536))
    go true e = let k = ltb-true n 32768 e in record { least = omega (ints, arith); most = omega (ints, arith) }
    go false e = let k = ltb-false n 32768 e in record { least = omega (ints, arith); most = omega (ints, arith) }

small_product : (x y : ℤ) → InRange 16 x → InRange 16 y → InRange 32 (x *ℤ y)
small_product (pos a) (pos b) p q =
    let i = p.most in let j = q.most in
    let e : a ≤ 32767 = omega (ints, arith) in let f : b ≤ 32767 = omega (ints, arith) in
    let k = mul-le-mul e f in
    record { least = omega (ints, arith); most = omega (ints, arith) }
small_product (pos a) (negsuc b) p q =
    let i = p.most in let j = q.least in
    let e : a ≤ 32767 = omega (ints, arith) in let f : suc b ≤ 32768 = omega (ints, arith) in
    let k = mul-le-mul e f in
    record { least = omega (ints, arith); most = omega (ints, arith) }
small_product (negsuc a) (pos b) p q =
    let i = p.least in let j = q.most in
    let e : suc a ≤ 32768 = omega (ints, arith) in let f : b ≤ 32767 = omega (ints, arith) in
    let k = mul-le-mul e f in
    record { least = omega (ints, arith); most = omega (ints, arith) }
small_product (negsuc a) (negsuc b) p q =
    let i = p.least in let j = q.least in
    let e : suc a ≤ 32768 = omega (ints, arith) in let f : suc b ≤ 32768 = omega (ints, arith) in
    let k = mul-le-mul e f in
    record { least = omega (ints, arith); most = omega (ints, arith) }

pub product_range : (a b : ℕ) → a < 65536 → b < 65536 → InRange 32 (signed_as 16 a *ℤ signed_as 16 b)
product_range a b l h = small_product (signed_as 16 a) (signed_as 16 b) (word_range a l) (word_range b h)

pub read_low : (n : ℕ) → n < 2147483648 → signed_as 32 n ≡ pos n
unfolding signed_as
read_low n l = rw (lt-ltb n 2147483648 l)
