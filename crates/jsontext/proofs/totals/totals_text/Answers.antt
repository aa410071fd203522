-- The totals nest little. Assumes nothing.
use Rattle.sheet.specs.Totals.{said}
use Rattle.jsontext.proofs.Plain.{totals_plain}
use Rattle.jsontext.proofs.totals.totals_text.Goals as goal

pub returns : goal.returns
returns c = rw c.in_ok-value.ensures at (c.line.ensures (totals_plain (said c.args.totals) _ c.in_ok-value.ensures))
