-- A list that has f at each of its places, so that what is listed for n numbers, or two ways to work it out, agree by one computation. Assumes nothing.
use mathlib.Core.Path.{◌≡◌, sym, ap, ◌∙◌}
use mathlib.Core.List.{List, [], ◌∷◌}
use Prim.Native.Nat.{ℕ, zero, suc, ◌+◌, ◌<◌}
use native.Mathlib.Nat.{not-suc-le-zero, le_of_suc-le-suc}
use native.Mathlib.Omega.{arith}
use lib.ListN.{get_or}

-- f at n places, counted from i
abbrev pub table : (ℕ → ℕ) → ℕ → ℕ → List ℕ
table f i zero = []
table f i (suc n) = f i ∷ table f (suc i) n

from : (f : ℕ → ℕ) (i n k : ℕ) → k < n → get_or (table f i n) k 0 ≡ f (i + k)
from f i zero k h = absurd (not-suc-le-zero h)
from f i (suc n) zero h = ap f (omega arith)
from f i (suc n) (suc k) h = from f (suc i) n k (le_of_suc-le-suc h) ∙ ap f (omega arith)

pub entry : (f : ℕ → ℕ) (n k : ℕ) → k < n → get_or (table f 0 n) k 0 ≡ f k
entry f n k h = from f 0 n k h ∙ ap f (omega arith)

-- two functions that have the same table: `same_below f g 256 refl`
pub same_below : (f g : ℕ → ℕ) (n : ℕ) → table f 0 n ≡ table g 0 n → (k : ℕ) → k < n → f k ≡ g k
same_below f g n e k h = sym (entry f n k h) ∙ ap (λ (l : List ℕ). get_or l k 0) e ∙ entry g n k h
