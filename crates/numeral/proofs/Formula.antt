-- The formula of digit values: at each of the 256 bytes it is the byte's digit value, by one computation over all of them. Assumes nothing.
use Rattle.std.proofs.Common.{◌≡◌, ℕ, ◌+◌, ◌%◌, ◌<◌, ◌≤◌, cond, ltb, refl, le-ltb, lt-ltb}
use lib.Bits.{bit_or}
use Rattle.rules.specs.Number.{digit_value}
use Rattle.rules.proofs.Tables.{same_below}

-- how far a byte is past `0`, and past `a` where a letter is made small, modulo 256
abbrev past_zero : ℕ → ℕ
past_zero b = (b + 208) % 256

abbrev past_a : ℕ → ℕ
past_a b = (bit_or b 32 + 159) % 256

abbrev formula : ℕ → ℕ
formula b = cond (ltb (past_zero b) 10) (past_zero b) (cond (ltb (past_a b) 6) (10 + past_a b) 255)

agrees : (b : ℕ) → b < 256 → formula b ≡ digit_value b
unfolding digit_value
agrees = same_below formula digit_value 256 refl

-- ---- the code's three returns
module _ (b : ℕ) (h : b < 256) where
  pub decimal : (b + 208) % 256 < 10 → (b + 208) % 256 ≡ digit_value b
  decimal s = rw (lt-ltb (past_zero b) 10 s) at (agrees b h)

  module _ (n : 10 ≤ (b + 208) % 256) where
    pub letter : (bit_or b 32 + 159) % 256 < 6 → 10 + (bit_or b 32 + 159) % 256 ≡ digit_value b
    letter s = rw (le-ltb (past_zero b) 10 n, lt-ltb (past_a b) 6 s) at (agrees b h)

    pub none : 6 ≤ (bit_or b 32 + 159) % 256 → 255 ≡ digit_value b
    none s = rw (le-ltb (past_zero b) 10 n, le-ltb (past_a b) 6 s) at (agrees b h)
