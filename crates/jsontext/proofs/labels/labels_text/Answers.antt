-- The labels nest little. Assumes nothing.
use Rattle.jsontext.proofs.Plain.{labels_plain}
use Rattle.jsontext.proofs.labels.labels_text.Goals as goal

pub returns : goal.returns
returns c = rw c.in_ok-value.ensures at (c.line.ensures (labels_plain _ _ c.in_ok-value.ensures))
