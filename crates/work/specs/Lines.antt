-- What `why` and `list` make of what is asked. Assumes nothing.
use Rattle.std.specs.Prelude.{◌≡◌, Bool, true, false, ltb, List, [], map, length, is_some}
use Rattle.rules.specs.Text.{Text}
use Rattle.commandline.specs.declared.Asked.{Asked}
use Rattle.jsontext.specs.Line.{line_text}
use Rattle.jsontext.specs.Lines.{Explained, files_data}
use Rattle.outcome.specs.Made.{Made}
use Rattle.outcome.specs.Joined.{joined}
use Rattle.outcome.specs.declared.making.Joining.{Joining}
use Rattle.make_lines.specs.Lines.{why_made, json_made, list_made, entry_text}
use Rattle.make_lines.specs.declared.Explaining.{Explaining}
use Rattle.make_lines.specs.declared.ExplainingJson.{ExplainingJson}
use Rattle.make_lines.specs.declared.Printing.{Printing}
use Rattle.work.specs.Calls.{Joins}

-- a line with its name stands in front of each script's text where there are several
abbrev pub is_headed : Asked → Bool
is_headed a = ltb 1 (length a.files.items)

abbrev pub explaining_of : Asked → Explaining
explaining_of a = record { base = a.base; lent = is_some a.branches; line = a.line; headed = is_headed a }

abbrev pub explaining_json_of : Asked → ExplainingJson
explaining_json_of a = record { base = a.base; lent = is_some a.branches; line = a.line }

abbrev pub printing_of : Asked → Printing
printing_of a = record { base = a.base; lent = is_some a.branches; headed = is_headed a }

-- whether JSON is asked for; t, the table's text, n, the script's name, and s, the script
abbrev pub explaining_by : Asked → Bool → Text → Text → Text → Made
explaining_by a true = λ t n s. json_made (explaining_json_of a) n t s
explaining_by a false = λ t n s. why_made (explaining_of a) n t s

abbrev pub explaining : Asked → Text → Text → Text → Made
explaining a = explaining_by a a.json

abbrev pub printing : Asked → Text → Text → Text → Made
printing a = λ t n s. list_made (printing_of a) n t s

-- the entries of several scripts are one line of JSON, a list of them
abbrev pub JoinsFiles : Joining → Type 0
JoinsFiles j = (fs : List Explained) → joined j (map entry_text fs) ≡ line_text (files_data fs)

abbrev pub JoinsBy : Bool → Joining → Type 0
JoinsBy true j = JoinsFiles j
JoinsBy false j = Joins j [] [] []
