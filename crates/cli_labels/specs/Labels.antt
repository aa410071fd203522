-- What `symbols` and `nearest` make of a script, as text and as JSON. Assumes nothing.
use Rattle.std.specs.Prelude.{ℕ, ◌≡◌, Bool, true, false, None, Result, Ok, Err, ⊤}
use Rattle.std.specs.Global.{Vec}
use Rattle.std.specs.declared.alloc.AllocError.{AllocError}
use mathlib.Core.List.{List, flat_map}
use Rattle.rules.specs.Text.{Text}
use Rattle.rules.specs.Label.{Label}
use Rattle.rules.specs.Answer.{Answer, accepted, refused}
use Rattle.requests.specs.Symbols.{symbols}
use Rattle.requests.specs.Nearest.{Nearest, nearest}
use Rattle.answer.specs.Refusal.{number_of, place_of}
use Rattle.answer.specs.declared.Refusal.{Refusal}
use Rattle.station.specs.Puts.{texts}
use Rattle.neartext.specs.NearLabel.{nearest_line}
use Rattle.symtext.specs.Symlist.{symbol_text}
use Rattle.jsontext.specs.Line.{line_text}
use Rattle.jsontext.specs.Labels.{labels_data, nearest_data}
use Rattle.cli_error.specs.Answered.{Made}
use Rattle.cli_run.specs.Input.{Named}
use Rattle.cli_run.specs.Told.{told}

-- the labels: one JSON value if JSON is requested, else a line for each
abbrev pub symbols_text_by : Bool → List Label → Text
symbols_text_by true ls = line_text (labels_data ls)
symbols_text_by false ls = flat_map symbol_text ls

-- the label of the script s nearest to an address: a JSON value, or its line
abbrev pub nearest_text_by : Bool → Text → Nearest → Text
nearest_text_by true s n = line_text (nearest_data s n)
nearest_text_by false s n = nearest_line s n

-- of the script b at a base
abbrev pub symbols_made : Bool → ℕ → Named → Made
symbols_made json base b = told (symbols_text_by json) 32768 None b (symbols base b.text)

abbrev pub nearest_made : Bool → ℕ → ℕ → Named → Made
nearest_made json base address b = told (nearest_text_by json b.text) 32768 None b (nearest base b.text address)

-- ---- the same before it is known how the script is called

abbrev pub text_of_symbols : Bool → ℕ → Text → Answer Text
text_of_symbols json base s = texts (symbols_text_by json) (symbols base s)

abbrev pub text_of_nearest : Bool → ℕ → ℕ → Text → Answer Text
text_of_nearest json base address s = texts (nearest_text_by json s) (nearest base s address)

-- the text of an answer, or its refusal
abbrev pub IsTextOf : Answer Text → Result (Vec ℕ) Refusal → Type 0
IsTextOf a (Ok text) = a ≡ accepted text.items
IsTextOf a (Err e) = a ≡ refused (number_of e) (place_of e)

-- without memory nothing is promised
abbrev pub Answers : Answer Text → Result (Result (Vec ℕ) Refusal) AllocError → Type 0
Answers a (Ok r) = IsTextOf a r
Answers a (Err e) = ⊤

-- a text of the script b, or its refusal
abbrev pub text_made : Named → Answer Text → Made
text_made b a = told (λ (s : Text). s) 32768 None b a
