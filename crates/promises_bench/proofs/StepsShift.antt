-- A long shifted left one bit at a time: its sign stays exactly as long as its value fits. Assumes nothing.
use Prim.Native.Nat.{ℕ, zero, suc, ◌+◌, ◌-◌, ◌*◌, ◌/◌, ◌%◌, ◌^◌, ◌<◌, ◌≤◌}
use mathlib.Core.Path.{◌≡◌, refl, ◌∙◌, ap}
use mathlib.Core.Bool.{Bool, true, false}
use mathlib.Core.Logic.{◌↔◌}
use native.Mathlib.Omega.{arith}
use native.Mathlib.Nat.{mod-eq_of_lt, add-mul-mod_self_left, add-mul, two-pow-succ, one-le-pow, pow-le-pow_right, mul-le-mul_left}
use borrow.Author.Differences.{ints}
use borrow.Author.Tests.{ltb-true, ltb-false, eqb-true, eq-eqb}
use lib.Dec.{ltb, eqb}
use lib.IntN.{pos, negsuc, ◌-ℤ◌, ◌*ℤ◌}
use Rattle.promises_bench.specs.Steps.{signed_as, InRange, shifted_by}
use Rattle.promises_bench.proofs.StepsLaws.{read_low, read_high}

doubled : (v i : ℕ) → v * 2 ^ suc i ≡ v * 2 ^ i + v * 2 ^ i
doubled v i = rw (two-pow-succ i) (omega arith)

grows : (v i j : ℕ) → i ≤ j → v * 2 ^ i ≤ v * 2 ^ j
grows v i j h = mul-le-mul_left v (pow-le-pow_right {n = 2} (omega arith) h)

-- not negative
module _ (v : ℕ) (l : v < 2147483648) where
  stays_low : (k i : ℕ) → i ≤ k → v * 2 ^ k < 2147483648 → v * 2 ^ i % 4294967296 < 2147483648
  stays_low k i h f = let g = grows v i k h in let m : v * 2 ^ i % 4294967296 ≡ v * 2 ^ i = mod-eq_of_lt (omega arith) in omega arith

  low_stays : (k : ℕ) → ((i : ℕ) → i ≤ k → v * 2 ^ i % 4294967296 < 2147483648) → v * 2 ^ k < 2147483648
  low_stays zero h = omega arith
  low_stays (suc k) h =
      let r = low_stays k (λ i j. h i (omega arith)) in
      let d = doubled v k in
      let q = h (suc k) (omega arith) in
      let m : v * 2 ^ suc k % 4294967296 ≡ v * 2 ^ suc k = mod-eq_of_lt (omega arith) in
      omega arith

-- negative, w below 0
module _ (v w : ℕ) (sum : v + w ≡ 4294967296) (p : 0 < w) (l : w ≤ 2147483648) where
  below : (i : ℕ) → w * 2 ^ i ≤ 4294967296 → v * 2 ^ i % 4294967296 ≡ 4294967296 - w * 2 ^ i
  below i h =
      let one : 1 ≤ 2 ^ i = one-le-pow i 2 (omega arith) in
      let small : w * 1 ≤ w * 2 ^ i = mul-le-mul_left w one in
      let whole : (v + w) * 2 ^ i ≡ 4294967296 * 2 ^ i = ap (λ (y : ℕ). y * 2 ^ i) sum in
      let parts : (v + w) * 2 ^ i ≡ v * 2 ^ i + w * 2 ^ i = add-mul v w (2 ^ i) in
      let e : v * 2 ^ i ≡ 4294967296 - w * 2 ^ i + 4294967296 * (2 ^ i - 1) = omega arith in
      ap (λ (y : ℕ). y % 4294967296) e ∙ add-mul-mod_self_left (4294967296 - w * 2 ^ i) 4294967296 (2 ^ i - 1)
      ∙ mod-eq_of_lt (omega arith)

  stays_high : (k i : ℕ) → i ≤ k → w * 2 ^ k ≤ 2147483648 → 2147483648 ≤ v * 2 ^ i % 4294967296
  stays_high k i h f = let g = grows w i k h in let m = below i (omega arith) in omega arith

  high_stays : (k : ℕ) → ((i : ℕ) → i ≤ k → 2147483648 ≤ v * 2 ^ i % 4294967296) → w * 2 ^ k ≤ 2147483648
  high_stays zero h = omega arith
  high_stays (suc k) h =
      let r = high_stays k (λ i j. h i (omega arith)) in
      let d = doubled w k in
      let q = h (suc k) (omega arith) in
      let m = below (suc k) (omega arith) in
      omega arith

-- what the signed product fits by
low_fits : (v t : ℕ) → v < 2147483648 → InRange 32 (signed_as 32 v *ℤ pos t) ↔ (v * t < 2147483648)
low_fits v t l =
    rw (read_low v l)
    ((λ i. let m = i.most in omega (ints, arith)), (λ h. record { least = omega (ints, arith); most = omega (ints, arith) }))

high_fits : (v w t : ℕ) → v + suc w ≡ 4294967296 → suc w ≤ 2147483648 → InRange 32 (signed_as 32 v *ℤ pos t) ↔ (suc w * t ≤ 2147483648)
high_fits v w t e l =
    let n : pos v -ℤ pos 4294967296 ≡ negsuc w = omega (ints, arith) in
    rw (read_high v (omega arith), n)
    ((λ i. let m = i.least in omega (ints, arith)), (λ h. record { least = omega (ints, arith); most = omega (ints, arith) }))

-- the last bit out
pub last_bit : (k v : ℕ) → 1 ≤ k → k ≤ 8 → v < 4294967296 → (eqb (v / 2 ^ (32 - k) % 2) 1 ≡ true) ↔ (2147483648 ≤ v * 2 ^ (k - 1) % 4294967296)
last_bit zero v a b l = absurd (omega arith)
last_bit (suc zero) v a b l = ((λ e. let q = eqb-true (v / 2147483648 % 2) 1 e in omega arith), (λ h. eq-eqb (v / 2147483648 % 2) 1 (omega arith)))
last_bit (suc (suc zero)) v a b l = ((λ e. let q = eqb-true (v / 1073741824 % 2) 1 e in omega arith), (λ h. eq-eqb (v / 1073741824 % 2) 1 (omega arith)))
last_bit (suc (suc (suc zero))) v a b l = ((λ e. let q = eqb-true (v / 536870912 % 2) 1 e in omega arith), (λ h. eq-eqb (v / 536870912 % 2) 1 (omega arith)))
last_bit (suc (suc (suc (suc zero)))) v a b l = ((λ e. let q = eqb-true (v / 268435456 % 2) 1 e in omega arith), (λ h. eq-eqb (v / 268435456 % 2) 1 (omega arith)))
last_bit (suc (suc (suc (suc (suc zero))))) v a b l = ((λ e. let q = eqb-true (v / 134217728 % 2) 1 e in omega arith), (λ h. eq-eqb (v / 134217728 % 2) 1 (omega arith)))
last_bit (suc (suc (suc (suc (suc (suc zero)))))) v a b l = ((λ e. let q = eqb-true (v / 67108864 % 2) 1 e in omega arith), (λ h. eq-eqb (v / 67108864 % 2) 1 (omega arith)))
last_bit (suc (suc (suc (suc (suc (suc (suc zero))))))) v a b l = ((λ e. let q = eqb-true (v / 33554432 % 2) 1 e in omega arith), (λ h. eq-eqb (v / 33554432 % 2) 1 (omega arith)))
last_bit (suc (suc (suc (suc (suc (suc (suc (suc zero)))))))) v a b l = ((λ e. let q = eqb-true (v / 16777216 % 2) 1 e in omega arith), (λ h. eq-eqb (v / 16777216 % 2) 1 (omega arith)))
last_bit (suc (suc (suc (suc (suc (suc (suc (suc (suc k))))))))) v a b l = absurd (omega arith)

below_by : (x v : ℕ) → v < 2147483648 → (2147483648 ≤ x → 2147483648 ≤ v) → x < 2147483648
below_by x v h f = go (ltb x 2147483648) refl
  where
    go : (t : Bool) → ltb x 2147483648 ≡ t → x < 2147483648
    go true e = ltb-true x 2147483648 e
    go false e = let k = ltb-false x 2147483648 e in let q = f k in absurd (omega arith)

-- the sign at every bit of the way
pub sign_stays : (k v : ℕ) → v < 4294967296
    → InRange 32 (signed_as 32 v *ℤ pos (2 ^ k)) ↔ ((i : ℕ) → i ≤ k → (2147483648 ≤ shifted_by i v) ↔ (2147483648 ≤ v))
sign_stays k v l = go (ltb v 2147483648) refl
  where
    go : (x : Bool) → ltb v 2147483648 ≡ x
        → InRange 32 (signed_as 32 v *ℤ pos (2 ^ k)) ↔ ((i : ℕ) → i ≤ k → (2147483648 ≤ shifted_by i v) ↔ (2147483648 ≤ v))
    go true e =
        let h = ltb-true v 2147483648 e in
        let f = low_fits v (2 ^ k) h in (
          (λ r i j. let q = stays_low v h k i j (f.0 r) in ((λ a. absurd (omega arith)), (λ a. absurd (omega arith)))),
          (λ g. f.1 (low_stays v h k (λ i j. (let q = g i j in below_by (shifted_by i v) v h q.0)))),
        )
    go false e =
        let h = ltb-false v 2147483648 e in
        let s : v + suc (4294967295 - v) ≡ 4294967296 = omega arith in
        let f = high_fits v (4294967295 - v) (2 ^ k) s (omega arith) in (
          (λ r i j. let q = stays_high v (suc (4294967295 - v)) s (omega arith) (omega arith) k i j (f.0 r) in ((λ a. h), (λ a. q))),
          (λ g. f.1 (high_stays v (suc (4294967295 - v)) s (omega arith) (omega arith) k (λ i j. (g i j).1 h))),
        )
