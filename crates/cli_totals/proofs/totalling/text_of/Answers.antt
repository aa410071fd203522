-- The text is a line, or a sheet's text.
use Rattle.std.proofs.Common.{◌∙◌}
use Rattle.cli_totals.proofs.Texts.{json_line, plain_text}
use Rattle.cli_totals.proofs.totalling.text_of.Goals as goal

pub returns-then-json : goal.returns-then-json
returns-then-json c = json_line (λ v. v.items) _ c.if-json.true _ c.totals_text.ensures

pub returns : goal.returns
returns c = plain_text _ c.if-json.false ((rw c.new-whole.ensures.items at c.in_ok-extend_from_slice.ensures.items) ∙ c.write_sheet-size.ensures.front)
