-- The value nests little. Assumes nothing.
use Rattle.jsontext.proofs.Plain.{near_plain}
use Rattle.jsontext.proofs.labels.nearest_text.Goals as goal

pub returns : goal.returns
returns c = rw (c.in_ok-value.ensures, c.name_at-name.ensures) at (c.line.ensures (near_plain _ _ _ c.in_ok-value.ensures))
