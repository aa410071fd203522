-- Where it is not known what stands on the disk. Assumes nothing.
use Rattle.std.proofs.Common.{refl}
use Rattle.std.specs.Prelude.{None, Result, Ok, Err, ⊤}
use Rattle.rules.specs.Text.{Text}
use Rattle.wholefile.specs.Shelf.{File}
use Rattle.wholefile.specs.Put.{Does}

pub unknown : {E : Type 0} (b : Text) (g : File → File) (r : Result ⊤ E) → Does b g None None r
unknown b g (Ok x) = refl
unknown b g (Err e) = (λ f. f, refl)
