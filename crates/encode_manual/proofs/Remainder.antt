-- A displacement's sixteen bits are its remainder modulo 65,536, 0 or more. Assumes nothing.
use Rattle.std.proofs.Common.{◌≡◌, ◌<◌, ℤ, pos, negsuc, ap, arith, w64, SFits}
use Rattle.std.specs.Int.{int_rem_euclid}
use lib.Signed.{mag}
use Rattle.manual.specs.Manual.{sixteen_bits}

pub remainder : (z : ℤ) → mag z < 32768 → int_rem_euclid z (pos 65536) ≡ pos (sixteen_bits z)
unfolding sixteen_bits
remainder (pos n) h = ap pos (omega arith)
remainder (negsuc n) h = ap pos (omega arith)

pub bits_fit : (z : ℤ) → mag z < 32768 → SFits w64 (pos (sixteen_bits z))
unfolding sixteen_bits
bits_fit (pos n) h = record { sfits = omega arith }
bits_fit (negsuc n) h = record { sfits = omega arith }
