-- What `assemble`, `manual`, `move`, `tidy` and `check` make of what is asked. Assumes nothing.
use Rattle.std.specs.Prelude.{ℕ, Bool, true, false, is_some}
use Rattle.rules.specs.Text.{Text}
use Rattle.requests.specs.ManualAssemble.{assemble_manual}
use Rattle.listing.specs.Listing.{list_text}
use Rattle.jsontext.specs.Line.{line_text}
use Rattle.jsontext.specs.Places.{list_data}
use Rattle.outcome.specs.Made.{Made, told, told_text}
use Rattle.commandline.specs.declared.Asked.{Asked}
use Rattle.make_lists.specs.Listed.{list_of}
use Rattle.make_lists.specs.Moved.{moved}
use Rattle.make_lists.specs.Tidied.{tidied}
use Rattle.make_lists.specs.Checked.{row_of, is_accepted}

-- json, whether JSON is asked for; lent, whether a branch table is named; t, its text, and s, the script
abbrev pub assembling_by : Bool → Bool → ℕ → Text → Text → Made
assembling_by true lent base = λ t s. told (λ l. line_text (list_data l)) (list_of lent base t s)
assembling_by false lent base = λ t s. told (λ l. list_text l) (list_of lent base t s)

abbrev pub assembling : Asked → Text → Text → Made
assembling a = assembling_by a.json (is_some a.branches) a.base

abbrev pub assembling_manual : Asked → Text → Text → Made
assembling_manual a = λ t s. told (λ l. list_text l) (assemble_manual a.base s)

abbrev pub moving : Asked → Text → Text → Made
moving a = λ t s. moved a.distance s

abbrev pub tidying : Text → Text → Made
tidying = λ t s. told_text (tidied s)

-- a row for the script that is named so, and whether it is accepted
abbrev pub checking : Asked → Text → Text → Text → Made
checking a = λ t name s. row_of name (list_of (is_some a.branches) a.base t s)

abbrev pub is_good : Asked → Text → Text → Bool
is_good a = λ t s. is_accepted (list_of (is_some a.branches) a.base t s)
