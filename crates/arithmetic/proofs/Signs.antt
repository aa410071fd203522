-- Signed integers as differences of two naturals, which is how the code has them. Assumes nothing.
use Prim.Native.Nat.{ℕ, zero, suc, ◌+◌, ◌-◌, ◌*◌, ◌/◌, ◌%◌, ◌^◌, ◌<◌, ◌≤◌}
use mathlib.Core.Path.{◌≡◌, refl, sym, ◌∙◌, ap}
use mathlib.Core.Bool.{Bool, true, false, cond, not}
use native.Mathlib.Omega.{arith}
use native.Mathlib.Nat.{mod-eq_of_lt, add-mod_right, add-mul}
use lib.Pow.{shl-shr, shr-shr}
use lib.Dec.{ltb, leb, eqb}
use lib.IntN.{ℤ, pos, negsuc, sub_ℕ, neg_ℤ, ◌+ℤ◌, ◌-ℤ◌, ◌*ℤ◌}
use borrow.Author.Tests.{lt-ltb, le-ltb, ltb-true, ltb-false, leb-true, leb-false, le-leb, lt-leb}
use Rattle.rules.specs.Number.{modulo}
use Rattle.manual.specs.Manual.{sign_by}
use Rattle.machine.specs.Flags.{fits_in, marks, shifted}
use Rattle.machine.specs.Machine.{product}

-- equal differences
pub same_difference : (p q r s : ℕ) → p + s ≡ r + q → sub_ℕ p q ≡ sub_ℕ r s
same_difference p q r s e = go (ltb p q) refl
  where
    go : (x : Bool) → ltb p q ≡ x → cond x (negsuc (q - suc p)) (pos (p - q)) ≡ sub_ℕ r s
    go true d =
        let h = ltb-true p q d in
        let l : r < s = omega arith in
        let n : s - suc r ≡ q - suc p = omega arith in
        rw (lt-ltb r s l, n)
    go false d =
        let h = ltb-false p q d in
        let l : s ≤ r = omega arith in
        let n : r - s ≡ p - q = omega arith in
        rw (le-ltb r s l, n)

pub from_pos : (n : ℕ) → pos n ≡ sub_ℕ n 0
from_pos n = let z : n - 0 ≡ n = omega arith in rw (le-ltb n 0 (omega arith), z)

-- how a number reads as signed: less nothing, or less 2 h
pub low_signed : (h n : ℕ) → n < h → sign_by h n ≡ sub_ℕ n 0
unfolding sign_by
low_signed h n l = rw (lt-ltb n h l) (from_pos n)

pub high_signed : (h n : ℕ) → h ≤ n → sign_by h n ≡ sub_ℕ n (h + h)
unfolding sign_by
high_signed h n l = let e : 2 * h ≡ h + h = omega arith in rw (le-ltb n h l, e)

-- sums
pub sub_plus : (a b c d : ℕ) → sub_ℕ a b +ℤ sub_ℕ c d ≡ sub_ℕ (a + c) (b + d)
sub_plus a b c d = go (ltb a b) refl (ltb c d) refl
  where
    go : (x : Bool) → ltb a b ≡ x → (y : Bool) → ltb c d ≡ y
        → cond x (negsuc (b - suc a)) (pos (a - b)) +ℤ cond y (negsuc (d - suc c)) (pos (c - d)) ≡ sub_ℕ (a + c) (b + d)
    go true p true q =
        let h = ltb-true a b p in let k = ltb-true c d q in
        let l : a + c < b + d = omega arith in
        let n : b + d - suc (a + c) ≡ suc (b - suc a + (d - suc c)) = omega arith in
        rw (lt-ltb (a + c) (b + d) l, n)
    go true p false q = let h = ltb-true a b p in let k = ltb-false c d q in same_difference (c - d) (suc (b - suc a)) (a + c) (b + d) (omega arith)
    go false p true q = let h = ltb-false a b p in let k = ltb-true c d q in same_difference (a - b) (suc (d - suc c)) (a + c) (b + d) (omega arith)
    go false p false q =
        let h = ltb-false a b p in let k = ltb-false c d q in
        let l : b + d ≤ a + c = omega arith in
        let n : a + c - (b + d) ≡ a - b + (c - d) = omega arith in
        rw (le-ltb (a + c) (b + d) l, n)

neg_pos : (n : ℕ) → neg_ℤ (pos n) ≡ sub_ℕ 0 n
neg_pos zero = refl
neg_pos (suc n) = let z : suc n - 1 ≡ n = omega arith in rw (lt-ltb 0 (suc n) (omega arith), z)

pub sub_neg : (a b : ℕ) → neg_ℤ (sub_ℕ a b) ≡ sub_ℕ b a
sub_neg a b = go (ltb a b) refl
  where
    go : (x : Bool) → ltb a b ≡ x → neg_ℤ (cond x (negsuc (b - suc a)) (pos (a - b))) ≡ sub_ℕ b a
    go true p = let h = ltb-true a b p in from_pos (suc (b - suc a)) ∙ same_difference (suc (b - suc a)) 0 b a (omega arith)
    go false p = let h = ltb-false a b p in neg_pos (a - b) ∙ same_difference 0 (a - b) b a (omega arith)

pub sub_minus : (a b c d : ℕ) → sub_ℕ a b -ℤ sub_ℕ c d ≡ sub_ℕ (a + d) (b + c)
sub_minus a b c d = ap (λ (z : ℤ). sub_ℕ a b +ℤ z) (sub_neg c d) ∙ sub_plus a b d c

-- whether a difference fits
pub fits_below : (h p q : ℕ) → p < q → fits_in h (sub_ℕ p q) ≡ leb q (p + h)
unfolding fits_in
fits_below h p q l = rw (lt-ltb p q l) (go (leb q (p + h)) refl)
  where
    go : (x : Bool) → leb q (p + h) ≡ x → ltb (q - suc p) h ≡ x
    go true e = let t = leb-true q (p + h) e in lt-ltb (q - suc p) h (omega arith)
    go false e = let t = leb-false q (p + h) e in le-ltb (q - suc p) h (omega arith)

pub fits_above : (h p q : ℕ) → q ≤ p → fits_in h (sub_ℕ p q) ≡ ltb p (q + h)
unfolding fits_in
fits_above h p q l = rw (le-ltb p q l) (go (ltb p (q + h)) refl)
  where
    go : (x : Bool) → ltb p (q + h) ≡ x → ltb (p - q) h ≡ x
    go true e = let t = ltb-true p (q + h) e in lt-ltb (p - q) h (omega arith)
    go false e = let t = ltb-false p (q + h) e in le-ltb (p - q) h (omega arith)

-- whether it does not
leb_is_not : (a b : ℕ) → leb a b ≡ not (ltb b a)
leb_is_not a b = go (leb a b) refl
  where
    go : (x : Bool) → leb a b ≡ x → leb a b ≡ not (ltb b a)
    go true e = e ∙ ap not (sym (le-ltb b a (leb-true a b e)))
    go false e = e ∙ ap not (sym (lt-ltb b a (leb-false a b e)))

ltb_is_not : (a b : ℕ) → ltb a b ≡ not (leb b a)
ltb_is_not a b = go (ltb a b) refl
  where
    go : (x : Bool) → ltb a b ≡ x → ltb a b ≡ not (leb b a)
    go true e = e ∙ ap not (sym (lt-leb b a (ltb-true a b e)))
    go false e = e ∙ ap not (sym (le-leb b a (ltb-false a b e)))

pub exceeds_below : (h p q : ℕ) → p < q → ltb (p + h) q ≡ not (fits_in h (sub_ℕ p q))
exceeds_below h p q l = rw (fits_below h p q l) (ltb_is_not (p + h) q)

pub exceeds_above : (h p q : ℕ) → q ≤ p → leb (q + h) p ≡ not (fits_in h (sub_ℕ p q))
exceeds_above h p q l = rw (fits_above h p q l) (leb_is_not (q + h) p)

-- a difference modulo m
pub modulo_below : (m d s : ℕ) → d < s → s < m → modulo m (sub_ℕ d s) ≡ m - (s - d)
unfolding modulo
modulo_below m d s h l = rw (lt-ltb d s h, mod-eq_of_lt {n = s - suc d} {m = m} (omega arith)) (omega arith)

pub modulo_above : (m d s : ℕ) → s ≤ d → d < m → modulo m (sub_ℕ d s) ≡ d - s
unfolding modulo
modulo_above m d s h l = rw (le-ltb d s h) (mod-eq_of_lt (omega arith))

-- modulo 2 ^ 32: a difference, and a negated product
pub modulo_difference : (p q : ℕ) → q ≤ 4294967296 → modulo 4294967296 (sub_ℕ p q) ≡ (p + (4294967296 - q)) % 4294967296
unfolding modulo
modulo_difference p q l = go (ltb p q) refl
  where
    go : (x : Bool) → ltb p q ≡ x → modulo 4294967296 (cond x (negsuc (q - suc p)) (pos (p - q))) ≡ (p + (4294967296 - q)) % 4294967296
    go true e =
        let h = ltb-true p q e in
        let a : (q - suc p) / 4294967296 ≡ 0 = omega arith in
        let b : (p + (4294967296 - q)) / 4294967296 ≡ 0 = omega arith in
        omega arith
    go false e =
        let h = ltb-false p q e in
        let r : p + (4294967296 - q) ≡ p - q + 4294967296 = omega arith in
        rw r (sym (add-mod_right (p - q) 4294967296))

pub modulo_negated : (n : ℕ) → n ≤ 4294967296 → modulo 4294967296 (neg_ℤ (pos n)) ≡ (4294967296 - n) % 4294967296
unfolding modulo
modulo_negated zero h = refl
modulo_negated (suc n) h =
    let a : n / 4294967296 ≡ 0 = omega arith in
    let b : (4294967296 - suc n) / 4294967296 ≡ 0 = omega arith in
    omega arith

-- a sum with a signed number
pub pos_plus : (p b c : ℕ) → pos p +ℤ sub_ℕ b c ≡ sub_ℕ (p + b) c
pos_plus p b c = rw (from_pos p) (sub_plus p 0 b c ∙ same_difference (p + b) (0 + c) (p + b) c (omega arith))

-- a negative word
pub negative : (a : ℕ) → 32768 ≤ a → a < 65536 → sign_by 32768 a ≡ negsuc (65535 - a)
unfolding sign_by
negative a h l = let e : 65536 - suc a ≡ 65535 - a = omega arith in rw (le-ltb a 32768 h, lt-ltb a 65536 l, e)

pub positive : (h a : ℕ) → a < h → sign_by h a ≡ pos a
unfolding sign_by
positive h a l = rw (lt-ltb a h l)

-- a byte read as signed, modulo 2 ^ 32
pub byte_low : (b : ℕ) → b < 128 → b ≡ modulo 4294967296 (sign_by 128 b)
unfolding modulo
byte_low b l = rw (positive 128 b l) (sym (mod-eq_of_lt (omega arith)))

pub byte_high : (b : ℕ) → 128 ≤ b → b < 256 → b + 4294967040 ≡ modulo 4294967296 (sign_by 128 b)
byte_high b l h = rw (high_signed 128 b l, modulo_difference b 256 (omega arith)) (sym (mod-eq_of_lt (omega arith)))

-- where a branch leads
pub target_low : (q p b : ℕ) → q ≡ p → b < 128 → (q + 2 + b) % 4294967296 ≡ modulo 4294967296 (pos (p + 2) +ℤ sign_by 128 b)
unfolding modulo
target_low q p b e l = rw (positive 128 b l, e)

pub target_high : (q p b : ℕ) → q ≡ p → 128 ≤ b → (q + 2 + b + 4294967040) % 4294967296 ≡ modulo 4294967296 (pos (p + 2) +ℤ sign_by 128 b)
target_high q p b e l = rw (high_signed 128 b l, pos_plus, modulo_difference (p + 2 + b) 256 (omega arith), e)

-- products of words
abbrev Product : ℕ → ℕ → ℕ → Type 0
Product a b r = (r ≡ product a b) × (r < 4294967296)

pub times_both : (a b r : ℕ) → a < 32768 → b < 32768 → r ≡ a * b → r ≤ 2147483648 → Product a b r
unfolding modulo
times_both a b r p q e l = let s : r < 4294967296 = omega arith in (rw (positive 32768 a p, positive 32768 b q, ← e) (sym (mod-eq_of_lt s)), s)

pub times_right : (a b r : ℕ) → a < 32768 → 32768 ≤ b → b < 65536 → r ≡ a * (65536 - b) → r ≤ 2147483648 → Product a b ((4294967296 - r) % 4294967296)
times_right a b r p q h e l =
    let n : suc (65535 - b) ≡ 65536 - b = omega arith in
    (rw (positive 32768 a p, negative b q h, n, ← e) (sym (modulo_negated r (omega arith))), omega arith)

pub times_left : (a b r : ℕ) → 32768 ≤ a → a < 65536 → b < 32768 → r ≡ (65536 - a) * b → r ≤ 2147483648 → Product a b ((4294967296 - r) % 4294967296)
times_left a b r p h q e l =
    let n : suc (65535 - a) ≡ 65536 - a = omega arith in
    (rw (positive 32768 b q, negative a p h, n, ← e) (sym (modulo_negated r (omega arith))), omega arith)

pub times_neither : (a b r : ℕ) → 32768 ≤ a → a < 65536 → 32768 ≤ b → b < 65536 → r ≡ (65536 - a) * (65536 - b) → r ≤ 2147483648 → Product a b r
unfolding modulo
times_neither a b r p h q k e l =
    let n : suc (65535 - a) ≡ 65536 - a = omega arith in
    let m : suc (65535 - b) ≡ 65536 - b = omega arith in
    let s : r < 4294967296 = omega arith in
    (rw (negative a p h, negative b q k, n, m, ← e) (sym (mod-eq_of_lt s)), s)

-- a difference times a number
pub sub_times : (a b t : ℕ) → sub_ℕ a b *ℤ pos t ≡ sub_ℕ (a * t) (b * t)
sub_times a b t = go (ltb a b) refl
  where
    go : (x : Bool) → ltb a b ≡ x → cond x (negsuc (b - suc a)) (pos (a - b)) *ℤ pos t ≡ sub_ℕ (a * t) (b * t)
    go true p =
        let h = ltb-true a b p in
        let n : a + suc (b - suc a) ≡ b = omega arith in
        let m : a * t + suc (b - suc a) * t ≡ b * t = sym (add-mul a (suc (b - suc a)) t) ∙ ap (λ (y : ℕ). y * t) n in
        neg_pos (suc (b - suc a) * t) ∙ same_difference 0 (suc (b - suc a) * t) (a * t) (b * t) (omega arith)
    go false p =
        let h = ltb-false a b p in
        let n : a - b + b ≡ a = omega arith in
        let m : (a - b) * t + b * t ≡ a * t = sym (add-mul (a - b) b t) ∙ ap (λ (y : ℕ). y * t) n in
        from_pos ((a - b) * t) ∙ same_difference ((a - b) * t) 0 (a * t) (b * t) (omega arith)

-- the last bit that a shift by k takes out of 32
pub last_out : (v k : ℕ) → k ≤ 32 → v * 2 ^ k / 4294967296 ≡ v / 2 ^ (32 - k)
last_out v k h =
    let e : k + (32 - k) ≡ 32 = omega arith in
    let f : 2 ^ (k + (32 - k)) ≡ 4294967296 = ap (λ (n : ℕ). 2 ^ n) e in
    sym (ap (λ (n : ℕ). n / 2 ^ (32 - k)) (sym (shl-shr v k)) ∙ shr-shr (v * 2 ^ k) k (32 - k) ∙ ap (λ (n : ℕ). v * 2 ^ k / n) f)

-- the flags of a shift
pub shift_marks :
    (k v b t p q : ℕ) (over : Bool) → k ≤ 8 → t ≡ 2 ^ k → sign_by 2147483648 v ≡ sub_ℕ v b → p ≡ v * t → q ≡ b * t
    → over ≡ not (fits_in 2147483648 (sub_ℕ p q))
    → marks (eqb (p / 4294967296 % 2) 1) 2147483648 (p % 4294967296) over (eqb (p / 4294967296 % 2) 1) ≡ shifted k v
unfolding shifted
shift_marks k v b t p q over h et es ep eq eo = rw (es, sub_times, eo, ep, eq, et, last_out v k (omega arith))

-- numbers of a width moved up by h: signed is then the difference from h
pub biased_low : (h n : ℕ) → n < h → (sign_by h n ≡ sub_ℕ ((n + h) % (h + h)) h) × ((n + h) % (h + h) < h + h)
biased_low h n l =
    let m : (n + h) % (h + h) ≡ n + h = mod-eq_of_lt {n = n + h} {m = h + h} (omega arith) in
    (rw m (low_signed h n l ∙ same_difference n 0 (n + h) h (omega arith)), rw m (omega arith))

pub biased_high : (h n : ℕ) → h ≤ n → n < h + h → (sign_by h n ≡ sub_ℕ ((n + h) % (h + h)) h) × ((n + h) % (h + h) < h + h)
biased_high h n l k =
    let q : n + h ≡ n - h + (h + h) = omega arith in
    let m : (n + h) % (h + h) ≡ n - h = ap (λ (x : ℕ). x % (h + h)) q ∙ add-mod_right (n - h) (h + h) ∙ mod-eq_of_lt {n = n - h} {m = h + h} (omega arith) in
    (rw m (high_signed h n l ∙ same_difference n (h + h) (n - h) h (omega arith)), rw m (omega arith))

pub biased_is : (h n : ℕ) → n < h + h → (sign_by h n ≡ sub_ℕ ((n + h) % (h + h)) h) × ((n + h) % (h + h) < h + h)
biased_is h n k = go (ltb n h) refl
  where
    go : (x : Bool) → ltb n h ≡ x → (sign_by h n ≡ sub_ℕ ((n + h) % (h + h)) h) × ((n + h) % (h + h) < h + h)
    go true e = biased_low h n (ltb-true n h e)
    go false e = biased_high h n (ltb-false n h e) k

pub beyond_low : (h t : ℕ) → t < h → ltb t h ≡ not (fits_in h (sub_ℕ t (h + h)))
beyond_low h t l = rw (fits_below h t (h + h) (omega arith), lt-leb (h + h) (t + h) (omega arith), lt-ltb t h l)

pub beyond_high : (h t : ℕ) → h ≤ t → leb (h + h + h) t ≡ not (fits_in h (sub_ℕ t (h + h)))
beyond_high h t l = go (ltb t (h + h)) refl
  where
    go : (x : Bool) → ltb t (h + h) ≡ x → leb (h + h + h) t ≡ not (fits_in h (sub_ℕ t (h + h)))
    go true e =
        let q = ltb-true t (h + h) e in
        rw (fits_below h t (h + h) q, le-leb (h + h) (t + h) (omega arith), lt-leb (h + h + h) t (omega arith))
    go false e = exceeds_above h t (h + h) (ltb-false t (h + h) e)

pub bias_minus : (h d s : ℕ) → s < h + h → sub_ℕ d h -ℤ sub_ℕ s h ≡ sub_ℕ (d + (h + h) - s) (h + h)
bias_minus h d s l = sub_minus d h s h ∙ same_difference (d + h) (h + s) (d + (h + h) - s) (h + h) (omega arith)
