-- Signed numbers as the code computes with them: in reach of a byte, their low bits, and the byte's sign reading. Assumes nothing.
use Rattle.std.specs.Prelude.{None, Some}
use Rattle.std.proofs.Common.{◌≡◌, ℕ, zero, suc, ◌-◌, ◌%◌, ◌^◌, ◌<◌, Bool, true, false, cond, ltb, ℤ, pos, negsuc, ◌-ℤ◌, refl, ap, ◌∙◌, arith, to_z-of_z, w32, SFits, to_z, of_z, ltb-false, ltb-true, le-ltb, lt-ltb}
use mathlib.Core.Bool.{false≢true}
use lib.Bits.{bit_and, and_mask}
use lib.IntN.{sub_ℕ}
use lib.Signed.{lt_z, mag}
use mir.Facts.{to_z_pos}
use Rattle.std.specs.Int.{int_rem_euclid}
use Rattle.rules.specs.Number.{within, modulo}
use Rattle.manual.specs.Manual.{sign_by, sign_of}

-- the byte of a number within -128 to 127, read with its sign, is the number
pub sign_reading : (z : ℤ) → mag z < 128 → sign_of (modulo 256 z) ≡ z
unfolding sign_of sign_by modulo
sign_reading (pos n) h = rw (lt-ltb (n % 256) 128 (omega arith)) (ap pos (omega arith))
sign_reading (negsuc n) h =
    rw (le-ltb (256 - suc (n % 256)) 128 (omega arith), lt-ltb (256 - suc (n % 256)) 256 (omega arith)) (ap negsuc (omega arith))

-- the low three bits of the byte are those of the number
pub low_three : (z : ℤ) → bit_and (modulo 256 z) 7 ≡ modulo 8 z
unfolding modulo
low_three (pos n) = and_mask (n % 256) 3 ∙ omega arith
low_three (negsuc n) = and_mask (256 - suc (n % 256)) 3 ∙ omega arith

-- the remainder modulo 256, 0 or more, is the low byte
pub euclid_byte : (z : ℤ) → int_rem_euclid z (pos 256) ≡ pos (modulo 256 z)
unfolding modulo
euclid_byte (pos n) = refl
euclid_byte (negsuc n) = ap pos (omega arith)

pub byte_small : (z : ℤ) → modulo 256 z < 256
unfolding modulo
byte_small (pos n) = omega arith
byte_small (negsuc n) = omega arith

-- the difference of two addresses that the code computes
difference_is : (a b : ℕ) → pos a -ℤ pos b ≡ sub_ℕ a b
difference_is a zero = rw (le-ltb a 0 (omega arith)) (ap pos (omega arith))
difference_is a (suc b) = refl

module _ (a b : ℕ) (h : a < 2 ^ 31) (k : b < 2 ^ 31) where
  pub difference : to_z w32 a -ℤ to_z w32 b ≡ sub_ℕ a b
  difference = rw (to_z_pos w32 h, to_z_pos w32 k) (difference_is a b)

  pub difference_fits : SFits w32 (sub_ℕ a b)
  difference_fits = record { sfits = go (ltb a b) }
    where
      go : (t : Bool) → mag (cond t (negsuc (b - suc a)) (pos (a - b))) < 2 ^ 31
      go true = omega arith
      go false = omega arith

  pub difference_read : to_z w32 (of_z w32 (to_z w32 a -ℤ to_z w32 b)) ≡ sub_ℕ a b
  difference_read = rw difference (to_z-of_z difference_fits)

-- the code's tests of a byte's range
pub too_low : (z : ℤ) → lt_z z (negsuc 127) ≡ true → within 128 z ≡ None
unfolding within
too_low (pos n) e = absurd (false≢true e)
too_low (negsuc n) e = rw (le-ltb n 128 (ltb-true 127 n e))

pub too_high : (z : ℤ) → lt_z (pos 127) z ≡ true → within 128 z ≡ None
unfolding within
too_high (pos n) e = rw (le-ltb n 128 (ltb-true 127 n e))
too_high (negsuc n) e = absurd (false≢true e)

pub in_range : (z : ℤ) → lt_z z (negsuc 127) ≡ false → lt_z (pos 127) z ≡ false → mag z < 128
in_range (pos n) e f = let l = ltb-false 127 n f in omega arith
in_range (negsuc n) e f = let l = ltb-false 127 n e in omega arith

pub within_range : (z : ℤ) → mag z < 128 → within 128 z ≡ Some z
unfolding within
within_range (pos n) h = rw (lt-ltb n 128 h)
within_range (negsuc n) h = rw (lt-ltb n 128 h)
