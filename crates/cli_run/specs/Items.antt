-- The files of a call, each of which was read or was not. Assumes nothing.
use Rattle.std.specs.Prelude.{◌≡◌, List, ◌∷◌}
use Rattle.rules.specs.Text.{Text}
use Rattle.cli_error.specs.declared.What.{What}
use Rattle.cli_error.specs.declared.Answer.{Answer}
use Rattle.cli_error.specs.Fault.{Fault, failed}
use Rattle.cli_error.specs.Answered.{Answered, failure_of}
use Rattle.cli_error.specs.Gives.{Gives}
use Rattle.cli_run.specs.Input.{Named}

-- all of a file's text; or the file was not opened, or not read to its end, and the system's words
pub data Found : Type 0 where
  read : Text → Found
  unread : What → Text → Found

pub record Item : Type 0 where
  pub name : Text
  pub found : Found

abbrev pub item : Named → Item
item b = record { name = b.name; found = read b.text }

module _ {A : Type 0} (stop : Fault → A) (k : Named → A) where
  abbrev pub found_by : Text → Found → A
  found_by name (read b) = k (record { name = name; text = b })
  found_by name (unread what reason) = stop (failed what name reason)

  -- k of a file that was read; else why it was not
  abbrev pub with_item : Item → A
  with_item i = found_by i.name i.found

-- what a call answers, as a function of the files that are left
abbrev pub Rest : Type 0
Rest = List Item → Answered

-- after the file b
abbrev pub rest_of : Rest → Named → Rest
rest_of f b = λ left. f (item b ∷ left)

-- the call ends here, whatever is left
abbrev pub Settles : Rest → Answer → Type 0
Settles f a = (left : List Item) → Gives (f left) a

-- and so it does where a file was not read
abbrev pub EndsUnread : Rest → Text → What → Text → Type 0
EndsUnread f name what reason = (left : List Item) → f (record { name = name; found = unread what reason } ∷ left) ≡ failure_of (failed what name reason)
