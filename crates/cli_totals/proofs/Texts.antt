-- The text for totals is a line, or a sheet's text. Assumes nothing.
use Rattle.std.proofs.Common.{◌≡◌, Bool, true, false, List, ℕ, Result, Ok, Err, IfOk}
use Rattle.rules.specs.Text.{Text}
use Rattle.requests.specs.Sheet.{Totals}
use Rattle.sheettext.specs.Rows.{sheet_text}
use Rattle.jsontext.specs.Line.{IsLine}
use Rattle.jsontext.specs.Totals.{totals_data}
use Rattle.cli_totals.specs.Series.{text_of}

pub json_line : {V E : Type 0} (items : V → List ℕ) (u : Totals) {json : Bool} → json ≡ true → (r : Result V E) → IfOk r (λ v. IsLine (totals_data u) (items v))
    → IfOk r (λ v. items v ≡ text_of json u)
unfolding text_of
json_line items u e (Ok v) h = rw e h.text
json_line items u e (Err x) h = tt

pub plain_text : (u : Totals) {json : Bool} {s : Text} → json ≡ false → s ≡ sheet_text u → s ≡ text_of json u
unfolding text_of
plain_text u e h = rw e h
