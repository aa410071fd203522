-- What is kept of an input that was read to its end. Assumes nothing.
use Rattle.std.specs.Prelude.{ℕ, ◌≡◌, false, List, Option}
use Rattle.rules.specs.Text.{Text}
use Rattle.station.specs.Reads.{Reads}
use Rattle.station.specs.declared.input.Input.{Input}
use Rattle.outcome.specs.Outcome.{WasRead}

-- old and new, what the reader has left before and after; buffer, which keeps the front of what was read, and i, which counts it
pub record Kept (old new : Option (List ℕ)) (buffer : List ℕ) (i : Input) : Type 0 where
  pub text : Text
  pub was_read : WasRead old new text
  pub reads : Reads text buffer i
  pub whole : i.failed ≡ false
