-- Distances and moved addresses as signed numbers: tests, sums and casts. Assumes nothing.
use Rattle.std.proofs.Common.{◌≡◌, ℕ, ◌+◌, ◌*◌, ◌/◌, ◌%◌, ◌^◌, ◌<◌, true, false, T, ℤ, pos, negsuc, ◌+ℤ◌, nat_abs, sym, refl, ap, ◌∙◌, arith, to_z-of_z, w32, w64, Fits, SFits, to_z, of_z, ltb-false}
use mathlib.Core.Bool.{false≢true}
use lib.Dec.{leb-suc-zero}
use lib.Signed.{lt_z, mag, non_neg}
use Rattle.rules.specs.Number.{modulo}
use Rattle.rules.specs.Relocate.{outside, added_pair, added_high}

pub outside_low : (z : ℤ) → lt_z z (pos 0) ≡ true → lt_z z (pos 0) ≡ outside z
unfolding outside
outside_low (pos n) e = absurd (false≢true (sym (leb-suc-zero n) ∙ e))
outside_low (negsuc n) e = refl

pub outside_high : (z : ℤ) → lt_z z (pos 0) ≡ false → lt_z (pos 1073741825) z ≡ outside z
unfolding outside
outside_high (pos n) e = refl
outside_high (negsuc n) e = absurd (false≢true (sym e))

-- what is in range fits an address
pub inside_fits : (z : ℤ) → outside z ≡ false → T (non_neg z) × Fits w32 (nat_abs z)
unfolding outside
inside_fits (pos n) e = (tt, record { fits = omega (arith, ltb-false (2 ^ 30 + 1) n e) })
inside_fits (negsuc n) e = absurd (false≢true (sym e))

-- what a call of `sum` leaves in a local, read back
pub summed : {z : ℤ} (a : ℕ) {d : ℤ} → mag z < 2 ^ 63 → z ≡ pos a +ℤ to_z w32 (of_z w32 d) → SFits w32 d → to_z w64 (of_z w64 z) ≡ pos a +ℤ d
summed {z} a {d} h e f = to_z-of_z {w = w64} (record { sfits = h }) ∙ e ∙ ap (λ y. pos a +ℤ y) (to_z-of_z f)

-- a distance modulo 2^32 is its bits, and its halves are words
bits_of : (d : ℤ) → SFits w32 d → of_z w32 d ≡ modulo (2 ^ 32) d
unfolding modulo
bits_of (pos n) f = let k : n < 2 ^ 31 = f.sfits in omega arith
bits_of (negsuc n) f = let k : n < 2 ^ 31 = f.sfits in omega arith

lower : (d : ℤ) → modulo 65536 d ≡ modulo (2 ^ 32) d % 65536
unfolding modulo
lower (pos n) = omega arith
lower (negsuc n) = omega arith

pub low_by : (d : ℤ) → SFits w32 d → of_z w32 d % 65536 ≡ modulo 65536 d
low_by d f = rw (bits_of d f) (sym (lower d))

pub upper_by : (d : ℤ) → SFits w32 d → of_z w32 d / 65536 ≡ modulo (2 ^ 32) d / 65536
upper_by d f = rw (bits_of d f)

-- a pair's high word by the halves, with the carry of the low ones
pub high_by : (d : ℤ) (h l : ℕ) → ((h + modulo (2 ^ 32) d / 65536) % 65536 + (l + modulo 65536 d) / 65536) % 65536 ≡ added_high d h l
unfolding added_high added_pair
high_by d h l = rw (lower d) (halves (modulo (2 ^ 32) d))
  where
    halves : (m : ℕ) → ((h + m / 65536) % 65536 + (l + m % 65536) / 65536) % 65536 ≡ (65536 * h + l + m) % 2 ^ 32 / 65536
    halves m = omega arith
