-- Sheets are added up, and then scripts, one after another, up to the first that cannot be added. Assumes nothing.
use Rattle.std.specs.Prelude.{ℕ, suc, Bool, true, false, List, [], ◌∷◌, take}
use Rattle.rules.specs.Text.{Text}
use Rattle.rules.specs.Answer.{Answer, accepted, refused}
use Rattle.requests.specs.Sheet.{Totals, no_totals, add_source, add_sheet}
use Rattle.sheettext.specs.Back.{Read, is_sheet, wrong, sheet_in}
use Rattle.sheettext.specs.Rows.{sheet_text}
use Rattle.jsontext.specs.Line.{line_text}
use Rattle.jsontext.specs.Totals.{totals_data}
use Rattle.outcome.specs.Made.{Made, refuses, no_sheet}
use Rattle.outcome.specs.declared.Which.{Which}
use Rattle.outcome.specs.declared.Which.TheVariants.{Sheet, Script}

-- totals to go on with, or why there is no going on
pub data Sum : Type 0 where
  summed : Totals → Sum
  halts : Made → Sum

-- an answer to a file
unfoldable pub sum_of : Which → Answer Totals → Sum
sum_of w (accepted t) = summed t
sum_of w (refused n p) = halts (refuses w n p)

-- the k-th sheet, from 0
unfoldable pub sheet_sum : ℕ → Totals → Read → Sum
sheet_sum k t (is_sheet u) = sum_of (Sheet k) (add_sheet t u)
sheet_sum k t (wrong n) = halts (no_sheet n)

-- it is judged by the first 32,768 bytes of its text: no sheet has more
unfoldable pub with_sheet : ℕ → Text → Sum → Sum
with_sheet k s (summed t) = sheet_sum k t (sheet_in (take 32768 s))
with_sheet k s (halts m) = halts m

unfoldable pub with_script : Text → Sum → Sum
with_script s (summed t) = sum_of Script (add_source t s)
with_script s (halts m) = halts m

-- one after another, the first of the sheets the k-th
unfoldable pub with_sheets : ℕ → List Text → Sum → Sum
with_sheets k [] o = o
with_sheets k (s ∷ ss) o = with_sheets (suc k) ss (with_sheet k s o)

unfoldable pub with_scripts : List Text → Sum → Sum
with_scripts [] o = o
with_scripts (s ∷ ss) o = with_scripts ss (with_script s o)

-- what sheets and scripts come to
unfoldable pub sum_all : List Text → List Text → Sum
sum_all sheets scripts = with_scripts scripts (with_sheets 0 sheets (summed no_totals))

-- what is put for totals: with `--json` a line, else the sheet's text
unfoldable pub text_of : Bool → Totals → Text
text_of true t = line_text (totals_data t)
text_of false t = sheet_text t
