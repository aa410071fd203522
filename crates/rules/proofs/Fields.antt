-- A field put into a word by a shift and an or is added to it, where its place in the word is clear: once over width and position. Assumes nothing.
use mathlib.Core.Path.{◌≡◌, sym, ap, ap₂, ◌∙◌}
use Prim.Native.Nat.{ℕ, ◌+◌, ◌*◌, ◌/◌, ◌%◌, ◌^◌, ◌<◌, ◌≤◌}
use native.Mathlib.Nat.{add-zero, zero-mul, mod-lt}
use lib.Bits.{bit_and, bit_or, and_block, and_shifted, and_zero_r, or_disjoint}
use lib.Pow.{pow_pos, split, shl_exact}

-- a number whose w lowest bits are clear, against one of w bits
apart : (x v w : ℕ) → v < 2 ^ w → x % 2 ^ w ≡ 0 → bit_and x v ≡ 0
apart x v w h e = ap (λ (y : ℕ). bit_and y v) (sym (split x w) ∙ ap (λ (y : ℕ). x / 2 ^ w * 2 ^ w + y) e ∙ add-zero _) ∙ and_shifted (x / 2 ^ w) w v h

-- a field in the k lowest bits
pub low : (k hi lo : ℕ) → lo < 2 ^ k → hi % 2 ^ k ≡ 0 → bit_or hi lo ≡ hi + lo
low k hi lo h e = or_disjoint hi lo (apart hi lo k h e)

-- a field of w bits from bit k on, in a word of n bits
pub field : (n k w base v : ℕ) → v < 2 ^ w → w + k ≤ n → base / 2 ^ k % 2 ^ w ≡ 0 → bit_or base ((v * 2 ^ k) % 2 ^ n) ≡ base + v * 2 ^ k
field n k w base v h l e =
    ap (bit_or base) (shl_exact w k n h l)
    ∙ or_disjoint base (v * 2 ^ k)
    (ap₂ bit_and (sym (split base k)) (sym (add-zero (v * 2 ^ k)))
    ∙ and_block k (base / 2 ^ k) v (base % 2 ^ k) 0 (mod-lt base (pow_pos k)) (pow_pos k)
    ∙ ap₂ (λ (x y : ℕ). x * 2 ^ k + y) (apart (base / 2 ^ k) v w h e) (and_zero_r (base % 2 ^ k))
    ∙ zeros k)
  where
    zeros : (k : ℕ) → 0 * 2 ^ k + 0 ≡ 0
    zeros k = add-zero (0 * 2 ^ k) ∙ zero-mul (2 ^ k)

-- both: w bits from bit k on, then the j lowest
pub fields :
    (n k w j base v lo : ℕ) → v < 2 ^ w → w + k ≤ n → base / 2 ^ k % 2 ^ w ≡ 0 → lo < 2 ^ j → (base + v * 2 ^ k) % 2 ^ j ≡ 0
    → bit_or (bit_or base ((v * 2 ^ k) % 2 ^ n)) lo ≡ base + v * 2 ^ k + lo
fields n k w j base v lo h l e g z = ap (λ (x : ℕ). bit_or x lo) (field n k w base v h l e) ∙ low j (base + v * 2 ^ k) lo g z
