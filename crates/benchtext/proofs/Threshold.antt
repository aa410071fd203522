-- A value put at an address of a list, place by place. Assumes nothing.
use Prim.Native.Nat.{ℕ, zero, suc, ◌<◌}
use mathlib.Core.Path.{◌≡◌, refl, ap}
use mathlib.Core.Bool.{cond}
use mathlib.Core.List.{List, [], ◌∷◌}
use native.Mathlib.Omega.{arith}
use lib.Dec.{eqb}
use lib.ListN.{length, get_or, set}
use Rattle.benchtext.specs.BenchText.{with_value}

pub value_step : (i p v : ℕ) (xs ws : List ℕ) → i < length xs → i < length ws
    → with_value (suc i) p v xs ws ≡ set (with_value i p v xs ws) i (cond (eqb (get_or xs i 0) p) v (get_or (with_value i p v xs ws) i 0))
unfolding with_value
value_step i p v [] ws h k = absurd (omega arith)
value_step i p v (x ∷ xs) [] h k = absurd (omega arith)
value_step zero p v (x ∷ xs) (w ∷ ws) h k = refl
value_step (suc i) p v (x ∷ xs) (w ∷ ws) h k = ap (λ r. cond (eqb x p) v w ∷ r) (value_step i p v xs ws (omega arith) (omega arith))
