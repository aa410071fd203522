-- Where the output goes. Assumes nothing.
use Rattle.std.specs.Prelude.{◌≡◌, ℕ, List, Option, None, Some, Result, ⊤, codes}
use Rattle.std.specs.declared.io.Error.{Error}
use Rattle.rules.specs.Text.{Text}
use Rattle.commandline.specs.declared.Asked.{Asked}
use Rattle.outcome.specs.declared.Outcome.{Outcome}
use Rattle.wholefile.specs.Put.{Whole}
use Rattle.wholefile.specs.Shelf.{Shelf}
use Rattle.wholefile.specs.declared.output.WholeFile.{WholeFile}
use Rattle.work.specs.Performed.{Performs}

module _ {D : Type 0} where
  -- into the file that path leads to: before and after, the file as an output; d and d', the disk; settled, stays and known, what is known of a disk
  abbrev pub InFile : Text → (Option Text → Option (List ℕ)) → Asked → D → D → (D → Text → Type 0) → (D → Text → Type 0) → (D → Option Shelf) → Option (List ℕ) → Option (List ℕ) → Outcome → Type 0
  InFile path h a d d' settled stays known old new o =
      (before after : WholeFile D) × (before.disk ≡ d) × (before.path.now ≡ path) × (after.disk ≡ d')
      × Performs a.command h a path (λ s r. Whole (settled after.disk) (stays after.disk) before.path.now s (known before.disk) (known after.disk) r) (after ≡ before) old new o

  -- standard output where no file is named, and the disk stays as it was; else the file, and standard output does
  abbrev pub WorksAt : Option Text → (Option Text → Option (List ℕ)) → Asked → D → D → (D → Text → Type 0) → (D → Text → Type 0) → (D → Option Shelf)
      → (Text → Result ⊤ Error → Type 0) → Type 0 → Option (List ℕ) → Option (List ℕ) → Outcome → Type 0
  WorksAt None h a d d' settled stays known puts same old new o = Performs a.command h a (codes "standard output") puts same old new o × (d' ≡ d)
  WorksAt (Some path) h a d d' settled stays known puts same old new o = InFile path h a d d' settled stays known old new o × same
