-- What a call answers. Assumes nothing.
use Rattle.std.specs.Prelude.{ℕ, [], Option, None, Some}
use Rattle.rules.specs.Text.{Text}
use Rattle.cli_error.specs.Messages.{no_memory_text}
use Rattle.cli_error.specs.Fault.{Fault, message, status}

-- the whole output, none where nothing is written; the text for standard error; and the exit status
pub record Answered : Type 0 where
  pub output : Option Text
  pub errors : Text
  pub status : ℕ

-- a text, or why there is none
pub data Made : Type 0 where
  made : Text → Made
  fails : Fault → Made

abbrev pub output_of : Text → ℕ → Answered
output_of s n = record { output = Some s; errors = []; status = n }

abbrev pub failure_of : Fault → Answered
failure_of f = record { output = None; errors = message f; status = status f }

abbrev pub answer_of : Made → Answered
answer_of (made s) = output_of s 0
answer_of (fails f) = failure_of f

abbrev pub out_of_memory : Answered
out_of_memory = record { output = None; errors = no_memory_text; status = 3 }
