-- Where the output goes, by the name that is given. Assumes nothing.
use Rattle.std.proofs.Common.{◌≡◌, ℕ, List}
use Rattle.std.specs.Prelude.{Option, Some, Result, ⊤}
use Rattle.std.specs.declared.io.Error.{Error}
use Rattle.rules.specs.Text.{Text}
use Rattle.commandline.specs.declared.Asked.{Asked}
use Rattle.outcome.specs.declared.Outcome.{Outcome}
use Rattle.wholefile.specs.Shelf.{Shelf}
use Rattle.work.specs.Placed.{InFile, WorksAt}

module _ {D : Type 0} (h : Option Text → Option (List ℕ)) (a : Asked) (d d' : D) (settled stays : D → Text → Type 0) (known : D → Option Shelf) (puts : Text → Result ⊤ Error → Type 0) (same : Type 0)
    (old new : Option (List ℕ)) (o : Outcome) where
  pub in_file : (named : Option Text) (path : Text) → named ≡ Some path → InFile path h a d d' settled stays known old new o × same → WorksAt named h a d d' settled stays known puts same old new o
  in_file named path e w = rw e w
