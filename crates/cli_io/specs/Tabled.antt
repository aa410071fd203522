-- A branch table that was read, if one is named, or was not. Assumes nothing.
use Rattle.std.specs.Prelude.{ℕ, ◌≡◌, List, length, take, Option, None, Some}
use Rattle.rules.specs.Text.{Text}
use Rattle.cli_error.specs.declared.Answer.{Answer}
use Rattle.cli_run.specs.Input.{IsTable}
use Rattle.cli_run.specs.Items.{unread}
use Rattle.cli_run.specs.declared.input.Input.{Input}
use Rattle.cli_error.specs.declared.What.{What}
use Rattle.cli_error.specs.Fault.{failed}
use Rattle.cli_error.specs.Answered.{failure_of}
use Rattle.cli_error.specs.Gives.{Gives}
use Rattle.cli_io.specs.World.{World, WasRead, input_name}

module _ {H : Type 0} (w : World H) (old new : H) where
  -- its front is kept
  abbrev pub TableRead : Option Text → List ℕ → ℕ → Type 0
  TableRead None front n = new ≡ old
  TableRead (Some name) front n = WasRead (w.reads old new (Some name)) front n

  -- a file was not read, and the answer reports that
  abbrev pub NotRead : Option Text → Answer → Type 0
  NotRead n a = (what : What) × (reason : Text) × w.reads old new n (unread what reason) × Gives (failure_of (failed what (input_name n) reason)) a

  abbrev pub TableNotRead : Option Text → Answer → Type 0
  TableNotRead None a = ⊥
  TableNotRead (Some name) a = NotRead (Some name) a

-- a table whose front is kept, if one is named
abbrev pub IsTabled : Option Text → List ℕ → ℕ → Option Input → Type 0
IsTabled None front n o = o ≡ None
IsTabled (Some name) front n o =
    (b : Text) → n ≡ length b → take (length front) b ≡ take n front → IsTable (Some (record { name = name; text = b })) o
