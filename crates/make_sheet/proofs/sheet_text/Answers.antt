-- The text that is put is a line, or a sheet's text. Assumes nothing.
use Rattle.std.proofs.Common.{◌∙◌}
use Rattle.make_sheet.proofs.Concluding.{json_line, plain_text}
use Rattle.make_sheet.proofs.sheet_text.Goals as goal

pub returns-then-json : goal.returns-then-json
returns-then-json c = json_line (λ v. v.items) _ c.if-json.true _ c.totals_text.ensures

pub returns : goal.returns
returns c = plain_text _ c.if-json.false ((rw c.new-whole.ensures.items at c.in_ok-extend_from_slice.ensures.items) ∙ c.write_sheet-size.ensures.front)
