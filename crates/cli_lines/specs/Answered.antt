-- What `why` and `list` answer of several scripts, under a branch table if one is named. Assumes nothing.
use Rattle.std.specs.Prelude.{ℕ, Bool, true, false, List, flat_map, Option}
use Rattle.rules.specs.Text.{Text}
use Rattle.jsontext.specs.Line.{line_text}
use Rattle.jsontext.specs.Lines.{Explained, files_data}
use Rattle.cli_error.specs.Answered.{Answered, output_of}
use Rattle.cli_run.specs.Input.{Named}
use Rattle.cli_run.specs.Items.{Rest}
use Rattle.cli_lines.specs.Lines.{explained_script, part_text, page_of}
use Rattle.cli_lines.specs.Folded.{each_of}

-- the text of all scripts: as JSON the line of one value, `{"files":[..]}`; else their texts one after another
abbrev pub explained_text : Bool → Option ℕ → Bool → List Explained → Text
explained_text true line many es = line_text (files_data es)
explained_text false line many es = flat_map (part_text line many) es

abbrev pub whole_text : Bool → Option ℕ → Bool → List Explained → Answered
whole_text json line many es = output_of (explained_text json line many es) 0

-- `why`, of the line that is asked for or of all; there are many scripts, or one
abbrev pub explained : Bool → ℕ → Option ℕ → Bool → Option Named → Rest
explained json base line many t = each_of t (explained_script line base t) (whole_text json line many)

-- `list`: the listings one after another
abbrev pub whole_page : List Text → Answered
whole_page ps = output_of (flat_map (λ p. p) ps) 0

abbrev pub printed : ℕ → Bool → Option Named → Rest
printed base many t = each_of t (page_of base many t) whole_page
