-- Opcodes: fields put together by shifts, masks and `|` are the sums of the rules. Assumes nothing.
use Prim.Native.Nat.{ℕ, suc, ◌+◌, ◌-◌, ◌*◌, ◌/◌, ◌%◌, ◌^◌, ◌<◌}
use mathlib.Core.Path.{◌≡◌, refl, ap, ◌∙◌}
use mathlib.Core.Bool.{Bool, true, false, cond}
use native.Mathlib.Omega.{arith}
use native.Mathlib.Nat.{mod-lt, mod-eq_of_lt, div-add-mod', add-mul-mod_self_left, mul-add-mod_self_right}
use lib.Dec.{eqb}
use lib.Bits.{and_mask}
use lib.Pow.{pow_pos}
use lib.IntN.{ℤ, pos, negsuc}
use borrow.Author.Tests.{eqb-true}
use Rattle.rules.specs.Number.{modulo}
use Rattle.rules.specs.Encode.{R}
use Rattle.rules.proofs.Fields.{low, field}
use Rattle.promises_rust.specs.RustStr.{as_u16, as_unsigned, i8_as_u16}
use Rattle.promises_rust.specs.RustAssembler.{◌or◌, ◌and◌, ◌<<◌}
use Rattle.promises_rust.proofs.RustNumber.{Small}

word_of : (n : ℕ) → n < 8 → as_u16 n ≡ n
word_of n h = mod-eq_of_lt {n = n} {m = 2 ^ 16} (omega arith)

-- a register in the low three bits, in bits 9 to 11, and two of them
module _ (base : ℕ) where
  pub at_low : (n : ℕ) → n < 8 → base % 8 ≡ 0 → (base or as_u16 n) ≡ base + n
  at_low n h e = rw (word_of n h) (low 3 base n h e)

  data_high : (n : ℕ) → n < 8 → base / 512 % 8 ≡ 0 → (base or (n << 9)) ≡ base + R n
  unfolding R
  data_high n h e = field 16 9 3 base n h (omega arith) e ∙ omega arith

  pub at_high : (n : ℕ) → n < 8 → base / 512 % 8 ≡ 0 → (base or (as_u16 n << 9)) ≡ base + R n
  at_high n h e = rw (word_of n h) (data_high n h e)

  even : (n m : ℕ) → base % m ≡ 0 → (base + m * n) % m ≡ 0
  even n m e = add-mul-mod_self_left base m n ∙ e

  high_low : (n m : ℕ) → n < 8 → m < 8 → base / 512 % 8 ≡ 0 → base % 8 ≡ 0 → (base or (m << 9) or as_u16 n) ≡ base + R m + n
  unfolding R
  high_low n m h k e f =
      rw (
        data_high m k e,
        word_of n h,
      ) (low 3 (base + 512 * m) n h (ap (λ (x : ℕ). x % 8) (let g : base + 512 * m ≡ base + 8 * (64 * m) = omega arith in g) ∙ even (64 * m) 8 f))

  pub registers : (n m : ℕ) → n < 8 → m < 8 → base / 512 % 8 ≡ 0 → base % 8 ≡ 0 → (base or (as_u16 m << 9) or as_u16 n) ≡ base + R m + n
  registers n m h k e f = rw (word_of m k) (high_low n m h k e f)

-- the low bits of a signed number of 8 bits
rest_of : (x m a r : ℕ) → r < m → x ≡ a * m + r → x % m ≡ r
rest_of x m a r h e = ap (λ (y : ℕ). y % m) e ∙ mul-add-mod_self_right a m r ∙ mod-eq_of_lt h

byte_is : (z : ℤ) → Small z → i8_as_u16 z % 256 ≡ modulo 256 z
unfolding as_unsigned modulo
byte_is (pos n) h = ap (λ (x : ℕ). x % 256) (mod-eq_of_lt {n = n} {m = 2 ^ 16} (omega arith))
byte_is (negsuc n) h =
    rw (mod-eq_of_lt {n = n} {m = 2 ^ 16} (omega arith), mod-eq_of_lt {n = n} {m = 256} (omega arith))
    (rest_of (2 ^ 16 - suc n) 256 255 (256 - suc n) (omega arith) (omega arith))

three_is : (z : ℤ) → Small z → i8_as_u16 z % 8 ≡ modulo 8 z
unfolding as_unsigned modulo
three_is (pos n) h = ap (λ (x : ℕ). x % 8) (mod-eq_of_lt {n = n} {m = 2 ^ 16} (omega arith))
three_is (negsuc n) h =
    rw (mod-eq_of_lt {n = n} {m = 2 ^ 16} (omega arith))
    (rest_of (2 ^ 16 - suc n) 8 (8191 - n / 8) (8 - suc (n % 8)) (omega (arith, mod-lt n {m = 8} (omega arith)))
    (omega (arith, mod-lt n {m = 8} (omega arith), div-add-mod' n 8)))

-- the low byte after fields that leave it free
pub low_byte : (base : ℕ) (z : ℤ) → Small z → base % 256 ≡ 0 → (base or (i8_as_u16 z and 0xFF)) ≡ base + modulo 256 z
low_byte base z h e =
    rw (and_mask (i8_as_u16 z) 8)
    (low 8 base (i8_as_u16 z % 256) (mod-lt (i8_as_u16 z) (pow_pos 8)) e ∙ ap (λ (x : ℕ). base + x) (byte_is z h))

pub moveq_word : (n : ℕ) (z : ℤ) → n < 8 → Small z → (0x7000 or (as_u16 n << 9) or (i8_as_u16 z and 0xFF)) ≡ 0x7000 + R n + modulo 256 z
unfolding R
moveq_word n z h k =
    rw (at_high 0x7000 n h refl)
    (low_byte (0x7000 + 512 * n) z k (ap (λ (x : ℕ). x % 256) (let g : 0x7000 + 512 * n ≡ 0x7000 + 256 * (2 * n) = omega arith in g) ∙ even 0x7000 (2 * n) 256 refl))

pub branch_word : (c : ℕ) (z : ℤ) → c < 16 → Small z → (0x6000 or (c << 8) or (i8_as_u16 z and 0xFF)) ≡ 0x6000 + 256 * c + modulo 256 z
branch_word c z h k =
    rw (field 16 8 4 0x6000 c h (omega arith) refl)
    (low_byte (0x6000 + c * 256) z k (ap (λ (x : ℕ). x % 256) (let g : 0x6000 + c * 256 ≡ 0x6000 + 256 * c = omega arith in g) ∙ even 0x6000 c 256 refl) ∙ omega arith)

-- SUBQ and ASL: 8 is written 0
quick : (x : ℕ) → cond (eqb x 8) 0 (x and 7) ≡ x % 8
quick x = go (eqb x 8) refl
  where
    go : (y : Bool) → eqb x 8 ≡ y → cond y 0 (x and 7) ≡ x % 8
    go true e = rw (eqb-true x 8 e)
    go false e = and_mask x 3

pub quick_word : (base n : ℕ) (z : ℤ) → n < 8 → Small z → base / 512 % 8 ≡ 0 → base % 8 ≡ 0
    → (base or (cond (eqb (i8_as_u16 z) 8) 0 (i8_as_u16 z and 7) << 9) or as_u16 n) ≡ base + n + R (modulo 8 z)
quick_word base n z h k e f =
    rw (quick (i8_as_u16 z), three_is z k) (high_low base n (modulo 8 z) h small e f ∙ omega arith)
  where
    small : modulo 8 z < 8
    small = rw (three_is z k) at (mod-lt (i8_as_u16 z) {m = 8} (omega arith))
