-- What becomes of an answer. Assumes nothing.
use Rattle.std.specs.Prelude.{ℕ, ◌≡◌, ◌⊎◌, Option, None, Some}
use Rattle.rules.specs.Text.{Text}
use Rattle.cli_error.specs.declared.What.TheVariants.{Write}
use Rattle.cli_error.specs.Messages.{failed_text, no_memory_text}
use Rattle.cli_error.specs.Answered.{Answered}
use Rattle.cli_io.specs.World.{World, written, unwritten, output_name}

module _ {H : Type 0} (w : World H) where
  -- a text is reported, or that there is no memory for it
  abbrev pub Reports : H → H → Text → Type 0
  Reports old new t = w.reports old new t ⊎ w.reports old new no_memory_text

  -- why the output was not written
  abbrev pub ReportsWhy : Option Text → H → H → Text → Type 0
  ReportsWhy to old new reason = Reports old new (failed_text Write (output_name to) reason)

  -- the output s was not written: that is reported, with the system's words
  abbrev pub Unwritten : Option Text → H → H → Text → Type 0
  Unwritten to old new s =
      (mid : H) × (reason : Text) × w.writes old mid to s (unwritten reason) × ReportsWhy to mid new reason

  -- n, the exit status. An output is written whole, and nothing is reported; if there is none, nothing is written, and the error text is reported
  abbrev pub Puts : Option Text → H → H → ℕ → Option Text → Text → ℕ → Type 0
  Puts to old new n (Some s) errors status = (w.writes old new to s written × (n ≡ status)) ⊎ (Unwritten to old new s × (n ≡ 3))
  Puts to old new n None errors status = w.reports old new errors × (n ≡ status)

  -- or there was no memory for the output or the error text, and nothing is written
  abbrev pub Delivered : Option Text → H → H → ℕ → Answered → Type 0
  Delivered to old new n a = Puts to old new n a.output a.errors a.status ⊎ (w.reports old new no_memory_text × (n ≡ 3))
