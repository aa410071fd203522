-- Laws of numbers in bytes: a number is its low byte and 256 times the number after it. Assumes nothing.
use Rattle.std.proofs.Common.{◌≡◌, ℕ, suc, ◌+◌, ◌*◌, ◌<◌, ◌≤◌, length, get_or, refl, add-one, arith, drop-cons}
use Rattle.rules.specs.Text.{Text}
use Rattle.recorded.specs.Recorded.{little_in, number_at}

low : (t : Text) (i j k : ℕ) → j ≡ i + 1 → i < length t → number_at i (suc k) t ≡ get_or t i 0 + 256 * number_at j k t
unfolding number_at little_in
low t i j k e h = rw (e, add-one i, drop-cons t i 0 h)

none : (t : Text) (i : ℕ) → number_at i 0 t ≡ 0
unfolding number_at little_in
none t i = refl

pub one_byte : (t : Text) (i : ℕ) → i < length t → get_or t i 0 ≡ number_at i 1 t
one_byte t i h = omega (arith, low t i (i + 1) 0 refl h, none t (i + 1))

pub two_bytes : (t : Text) (i j : ℕ) → j ≡ i + 1 → j < length t → get_or t i 0 + 256 * get_or t j 0 ≡ number_at i 2 t
two_bytes t i j e h = omega (arith, low t i j 1 e (omega arith), one_byte t j h)

pub four_bytes : (t : Text) (i : ℕ) → i + 4 ≤ length t
    → get_or t i 0 + 256 * get_or t (i + 1) 0 + 65536 * get_or t (i + 2) 0 + 16777216 * get_or t (i + 3) 0 ≡ number_at i 4 t
four_bytes t i h =
    omega
    (arith, low t i (i + 1) 3 refl (omega arith), low t (i + 1) (i + 2) 2 (omega arith) (omega arith), low t (i + 2) (i + 3) 1 (omega arith) (omega arith), one_byte t (i + 3) (omega arith))
