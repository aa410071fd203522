-- What `assemble` and `manual` make of a script. Assumes nothing.
use Rattle.std.specs.Prelude.{ℕ, Bool, true, false, List, Option, None}
use Rattle.rules.specs.Text.{Text}
use Rattle.rules.specs.Assemble.{Place}
use Rattle.requests.specs.ManualAssemble.{assemble_manual}
use Rattle.listing.specs.Listing.{list_text}
use Rattle.jsontext.specs.Line.{line_text}
use Rattle.jsontext.specs.Places.{list_data}
use Rattle.cli_error.specs.Answered.{Made}
use Rattle.cli_run.specs.Input.{Named}
use Rattle.cli_run.specs.Told.{told}
use Rattle.cli_lists.specs.Listed.{list_of}

-- a list as JSON, or a line for each word
abbrev pub list_text_by : Bool → List Place → Text
list_text_by true l = line_text (list_data l)
list_text_by false l = list_text l

-- `assemble`: t is the branch table, b the script
abbrev pub assembled : Bool → ℕ → Option Named → Named → Made
assembled json base t b = told (λ l. list_text_by json l) 32768 t b (list_of t base b.text)

-- `manual`
abbrev pub assembled_manual : ℕ → Named → Made
assembled_manual base b = told (λ l. list_text l) 32768 None b (assemble_manual base b.text)
