-- The list nests little. Assumes nothing.
use Rattle.jsontext.proofs.Plain.{list_plain}
use Rattle.jsontext.proofs.places.list_text.Goals as goal

pub returns : goal.returns
returns c = rw c.in_ok-value.ensures at (c.line.ensures (list_plain _ _ c.in_ok-value.ensures))
