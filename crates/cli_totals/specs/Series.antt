-- Sheets are added up, and then scripts, one after another, up to the first that cannot be added. Assumes nothing.
use Rattle.std.specs.Prelude.{Bool, true, false, List, [], ◌∷◌, take}
use Rattle.rules.specs.Text.{Text}
use Rattle.rules.specs.Answer.{Answer, accepted, refused}
use Rattle.requests.specs.Sheet.{Totals, no_totals, add_source, add_sheet}
use Rattle.sheettext.specs.Back.{Read, is_sheet, wrong, sheet_in}
use Rattle.sheettext.specs.Rows.{sheet_text}
use Rattle.jsontext.specs.Line.{line_text}
use Rattle.jsontext.specs.Totals.{totals_data}
use Rattle.cli_error.specs.Fault as Why
use Rattle.cli_error.specs.Fault.{Fault, no_sheet}
use Rattle.cli_run.specs.Input.{Named}
use Rattle.cli_totals.specs.declared.adding.Kind.{Kind}
use Rattle.cli_totals.specs.declared.adding.Kind.TheVariants.{Sheet, Script}

-- totals to go on with, or why there is no going on
pub data Sum : Type 0 where
  summed : Totals → Sum
  halts : Fault → Sum

-- an answer to the file of a name; a refusal shows no line of it
unfoldable pub sum_of : Text → Answer Totals → Sum
sum_of name (accepted t) = summed t
sum_of name (refused n p) = halts (Why.refused name n p [])

unfoldable pub sheet_sum : Text → Totals → Read → Sum
sheet_sum name t (is_sheet u) = sum_of name (add_sheet t u)
sheet_sum name t (wrong n) = halts (no_sheet name n)

-- the totals with those of a file: a sheet is judged by the first 32,768 bytes of its text, for no sheet has more
unfoldable pub with_file : Kind → Totals → Named → Sum
with_file Sheet t b = sheet_sum b.name t (sheet_in (take 32768 b.text))
with_file Script t b = sum_of b.name (add_source t b.text)

unfoldable pub sum_then : Sum → (Totals → Sum) → Sum
sum_then (summed t) k = k t
sum_then (halts e) k = halts e

-- and with those of some files, one after another
unfoldable pub with_files : Kind → List Named → Totals → Sum
with_files kind [] t = summed t
with_files kind (b ∷ bs) t = sum_then (with_file kind t b) (λ u. with_files kind bs u)

-- what sheets and scripts come to
unfoldable pub sum_all : List Named → List Named → Sum
sum_all sheets scripts = sum_then (with_files Sheet sheets no_totals) (λ t. with_files Script scripts t)

-- what is written for totals: with `--json` a line, else the sheet's text
unfoldable pub text_of : Bool → Totals → Text
text_of true t = line_text (totals_data t)
text_of false t = sheet_text t
