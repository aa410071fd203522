-- Mnemonics in two lists, one after the other. Assumes nothing.
use Rattle.std.specs.Prelude.{Some}
use Rattle.rules.specs.Option.{or_else}
use mathlib.Core.Path.{◌≡◌, refl}
use mathlib.Core.Bool.{Bool, true, false}
use mathlib.Core.List.{List, [], ◌∷◌, ◌++◌}
use Rattle.rules.specs.Text.{Text, same}
use Rattle.rules.specs.Encode.{Mnemonic, operation_in}

-- the first list's are found first
pub in_both : (ms ns : List Mnemonic) (m : Text) → operation_in (ms ++ ns) m ≡ or_else (operation_in ms m) (operation_in ns m)
unfolding operation_in or_else
in_both [] ns m = refl
in_both (n ∷ ms) ns m = go (same m n.name) (in_both ms ns m)
  where
    go : (x : Bool) → operation_in (ms ++ ns) m ≡ or_else (operation_in ms m) (operation_in ns m)
        → elim x [ true ↦ Some n.operation | false ↦ operation_in (ms ++ ns) m ]
        ≡ or_else (elim x [ true ↦ Some n.operation | false ↦ operation_in ms m ]) (operation_in ns m)
    go true ih = refl
    go false ih = ih
