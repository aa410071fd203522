-- The value of a DC piece, by its first byte. Assumes nothing.
use mathlib.Core.Path.{◌≡◌, refl, sym}
use mathlib.Core.List.{[], ◌∷◌}
use native.Mathlib.Omega.{arith}
use Prim.Native.Nat.{◌≤◌, ◌<◌}
use lib.ListN.{length, get_or}
use borrow.Author.Tests.{eq-eqb, ne_eqb}
use Rattle.rules.specs.Text.{Text, bytes, starts}
use Rattle.rules.specs.Number.{reading32}
use Rattle.rules.specs.Line.{value_reading}
use Rattle.rules.specs.Sum.{sum_reading}

pub value_none : (t : Text) → length t < 1 → value_reading t ≡ reading32 t
unfolding value_reading starts bytes
value_none [] h = refl
value_none (b ∷ s) h = absurd (omega arith)

pub value_sum : (t : Text) → 1 ≤ length t → get_or t 0 0 ≡ 91 → value_reading t ≡ sum_reading t
unfolding value_reading starts bytes
value_sum [] h e = absurd (omega arith)
value_sum (b ∷ s) h e = rw (value_reading, eq-eqb 91 b (sym e), starts)

pub value_number : (t : Text) → (get_or t 0 0 ≡ 91 → ⊥) → value_reading t ≡ reading32 t
unfolding value_reading starts bytes
value_number [] k = refl
value_number (b ∷ s) k = rw (value_reading, ne_eqb 91 b (λ e. k (sym e)), starts)
