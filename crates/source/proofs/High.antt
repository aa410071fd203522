-- The first byte over 127, as the rules seek it and as `position` does. Assumes nothing.
use Rattle.std.proofs.Common.{◌≡◌, ℕ, ◌<◌, max, le-ltb, arith, suc, Bool, true, false, ltb, [], ◌∷◌, refl, add-one}
use Rattle.std.specs.Prelude.{None, position}
use Rattle.std.specs.List.{position_from, fold}
use Rattle.std.proofs.lemmas.Iterator.Adapters.{position_from-zero}
use Rattle.rules.specs.Text.{Text}
use Rattle.rules.specs.Assemble.{first_high}

from : (i : ℕ) (s : Text) → first_high i s ≡ position_from (λ b. ltb 127 b) i s
unfolding first_high
from i [] = refl
from i (b ∷ s) = go (ltb 127 b) refl (from (suc i) s)
  where
    go : (x : Bool) → ltb 127 b ≡ x → first_high (suc i) s ≡ position_from (λ b. ltb 127 b) (suc i) s → first_high i (b ∷ s) ≡ position_from (λ b. ltb 127 b) i (b ∷ s)
    go true e h = rw (e, first_high, position_from)
    go false e h = rw (e, first_high, position_from) (rw (add-one i) h)

pub high : (s : Text) → first_high 0 s ≡ position (λ b. ltb 127 b) s
high s = rw (position_from-zero (λ b. ltb 127 b) s) (from 0 s)

-- no byte is over the highest
over : (t : ℕ) (s : Text) (i : ℕ) → fold max t s < 128 → (t < 128) × (first_high i s ≡ None)
unfolding first_high
over t [] i h = (h, refl)
over t (b ∷ s) i h =
    let p = over (max t b) s (suc i) h in
    let e : ltb 127 b ≡ false = le-ltb 127 b (omega (arith, p.0)) in
    (omega (arith, p.0), rw (e, first_high) p.1)

pub nothing_high : (s : Text) → fold max 0 s < 128 → first_high 0 s ≡ None
nothing_high s h = (over 0 s 0 h).1
