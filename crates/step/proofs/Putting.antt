-- Four bytes put over a slice one after another. Assumes nothing.
use Rattle.std.proofs.Common.{◌≡◌, ℕ, zero, suc, ◌+◌, ◌≤◌, List, [], ◌∷◌, length, refl, ap, arith}
use Rattle.std.specs.Prelude.{set}
use lib.Seq.{paste}

pub put_four : (p : ℕ) (m : List ℕ) (b c d e : ℕ) → p + 4 ≤ length m
    → paste m p (b ∷ c ∷ d ∷ e ∷ []) 4 ≡ set (set (set (set m p b) (p + 1) c) (p + 2) d) (p + 3) e
put_four zero (x ∷ y ∷ z ∷ w ∷ m) b c d e l = refl
put_four (suc p) (x ∷ m) b c d e l =
    let first : suc p + 1 ≡ suc (p + 1) = omega arith in
    let second : suc p + 2 ≡ suc (p + 2) = omega arith in
    let third : suc p + 3 ≡ suc (p + 3) = omega arith in
    let last : suc p + 4 ≡ suc (p + 4) = omega arith in
    rw (first, second, third, last) (ap (λ (s : List ℕ). x ∷ s) (put_four p m b c d e (omega arith)))
put_four zero [] b c d e l = absurd (omega arith)
put_four zero (x ∷ []) b c d e l = absurd (omega arith)
put_four zero (x ∷ y ∷ []) b c d e l = absurd (omega arith)
put_four zero (x ∷ y ∷ z ∷ []) b c d e l = absurd (omega arith)
put_four (suc p) [] b c d e l = absurd (omega arith)
