-- Texts that compare as the same are equal. Assumes nothing.
use Prim.Native.Nat.{ℕ}
use mathlib.Core.Path.{◌≡◌, refl}
use mathlib.Core.Bool.{Bool, true, false, false≢true}
use mathlib.Core.List.{List, [], ◌∷◌}
use lib.Dec.{eqb}
use borrow.Author.Tests.{eqb-true}
use Rattle.rules.specs.Text.{Text, same}

pub same_eq : (s t : Text) → same s t ≡ true → s ≡ t
unfolding same
same_eq [] [] e = refl
same_eq [] (b ∷ t) e = absurd (false≢true e)
same_eq (a ∷ s) [] e = absurd (false≢true e)
same_eq (a ∷ s) (b ∷ t) e = go (eqb a b) refl (same_eq s t)
  where
    go : (x : Bool) → eqb a b ≡ x → (same s t ≡ true → s ≡ t) → ◌≡◌ {A = Text} (a ∷ s) (b ∷ t)
    go true f ih = rw (eqb-true a b f, ih (rw (same, f) at e))
    go false f ih = absurd (false≢true (rw (same, f) at e))
