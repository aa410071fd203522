-- Why a call has no output: the message, and the exit status. Assumes nothing.
use Rattle.std.specs.Prelude.{ℕ, Option, None, Some}
use Rattle.rules.specs.Text.{Text}
use Rattle.cli_error.specs.declared.What.{What}
use Rattle.cli_error.specs.Messages.{refused_text, not_a_list_text, not_a_sheet_text, failed_text, wrong_use_text, usage_text}

-- the name of the text that is refused, the refusal's number and place, and the text whose line is shown
-- a text that is no list, or no sheet, and its first wrong line
-- a file that was not opened, read or written, and the system's words
-- a usage error: the command, none where the first word names none, and what is wrong
pub data Fault : Type 0 where
  refused : Text → ℕ → ℕ → Text → Fault
  no_list : Text → ℕ → Fault
  no_sheet : Text → ℕ → Fault
  failed : What → Text → Text → Fault
  misused : Option Text → Text → Fault

abbrev pub misuse_text : Option Text → Text → Text
misuse_text None wrong = usage_text wrong
misuse_text (Some command) wrong = wrong_use_text command wrong

abbrev pub message : Fault → Text
message (refused name n p s) = refused_text name n p s
message (no_list name line) = not_a_list_text name line
message (no_sheet name line) = not_a_sheet_text name line
message (failed what name reason) = failed_text what name reason
message (misused command wrong) = misuse_text command wrong

-- "Exit status: 0 accepted, 1 refused, 2 wrong use, 3 input or output failed"; a text that is no list or no sheet counts as refused
abbrev pub status : Fault → ℕ
status (refused name n p s) = 1
status (no_list name line) = 1
status (no_sheet name line) = 1
status (failed what name reason) = 3
status (misused command wrong) = 2
