-- The entries nest little. Assumes nothing.
use Rattle.jsontext.proofs.Plain.{files_plain}
use Rattle.jsontext.proofs.verdicts.files_text.Goals as goal

pub returns : goal.returns
returns c = λ fs h. rw (c.in_ok-value.ensures fs h) at (c.line.ensures (files_plain fs _ (c.in_ok-value.ensures fs h)))
