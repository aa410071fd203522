-- What a step of `plantsheet` comes to, and what is printed for it. Assumes nothing.
use Rattle.std.specs.Prelude.{ℕ, cond, List, [], ltb, take, replicate, Result, Ok, Err}
use Rattle.rules.specs.Limits.{max_source}
use Rattle.rules.specs.Text.{Text, bytes}
use Rattle.rules.specs.Answer.{Answer, accepted, refused}
use Rattle.requests.specs.Sheet.{add_source, add_sheet}
use Rattle.requests.specs.Sheet.{Totals as Said}
use Rattle.listing.specs.Listing.{refused_text}
use Rattle.station.specs.declared.input.Input.{Input}
use Rattle.sheet.specs.Totals.{said}
use Rattle.sheettext.specs.Rows.{row, sheet_text}
use Rattle.sheettext.specs.Back.{Read, is_sheet, wrong, sheet_in}
use Rattle.answer.specs.Refusal.{number_of, place_of}
use Rattle.answer.specs.declared.Refusal.{Refusal}
use Rattle.sheet.specs.declared.Totals.{Totals}
use Rattle.sheettext.specs.declared.Stop.{Stop}
use Rattle.sheettext.specs.declared.Stop.TheVariants.{Refused, Wrong, Unread}

-- totals to go on with, a refusal, a text that is no sheet's, or a file that cannot be read
pub data Outcome : Type 0 where
  summed : Said → Outcome
  stops : ℕ → ℕ → Outcome
  no_sheet : ℕ → Outcome
  unread : Outcome

-- by the two functions that tell a refusal's number and its place
abbrev pub outcome_by : {R : Type 0} → (R → ℕ) → (R → ℕ) → Result Totals (Stop R) → Outcome
outcome_by number place (Ok t) = summed (said t)
outcome_by number place (Err (Refused x)) = stops (number x) (place x)
outcome_by number place (Err (Wrong l)) = no_sheet l.number
outcome_by number place (Err Unread) = unread

abbrev pub outcome : Result Totals (Stop Refusal) → Outcome
outcome s = outcome_by number_of place_of s

unfoldable pub outcome_of : Answer Said → Outcome
outcome_of (accepted t) = summed t
outcome_of (refused n p) = stops n p

-- unless it could not be read to its end
unfoldable pub unless_unread : Input → Outcome → Outcome
unless_unread i o = cond i.failed unread o

-- ---- a script, of which a buffer keeps the front: over the limit any other is refused as it is
unfoldable pub over_long : Text
over_long = replicate 32769 0

unfoldable pub script_step : Said → Input → List ℕ → Outcome
script_step t i buffer = unless_unread i (outcome_of (add_source t (cond (ltb max_source i.total) over_long (take i.total buffer))))

-- ---- a sheet's text
unfoldable pub sheet_answer : Said → Read → Outcome
sheet_answer t (is_sheet u) = outcome_of (add_sheet t u)
sheet_answer t (wrong n) = no_sheet n

unfoldable pub sheet_step : Said → Input → List ℕ → Outcome
sheet_step t i buffer = unless_unread i (sheet_answer t (sheet_in (take i.total buffer)))

-- ---- what is printed
unfoldable pub step_text : Outcome → Text
step_text (summed t) = sheet_text t
step_text (stops n p) = refused_text n p
step_text (no_sheet n) = row (bytes "not a sheet: line ") n
step_text unread = []
