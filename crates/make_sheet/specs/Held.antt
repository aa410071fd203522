-- What files hold. Assumes nothing.
use Rattle.std.specs.Prelude.{ℕ, List, [], ◌∷◌, Option, Some}
use Rattle.rules.specs.Text.{Text}
use Rattle.serving.specs.Served.{Held}

-- the texts of the files of these names, in their order; by f what the file of a name holds, where that is known
unfoldable pub Hold : (Option Text → Option (List ℕ)) → List Text → List Text → Type 0
Hold f [] [] = Unit
Hold f [] (s ∷ ss) = ⊥
Hold f (n ∷ ns) [] = ⊥
Hold f (n ∷ ns) (s ∷ ss) = Held (f (Some n)) s × Hold f ns ss
