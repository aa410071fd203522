-- No run stands in it. Assumes nothing.
use Rattle.std.proofs.Common.{refl}
use Rattle.jsontext.proofs.Writing.{begun}
use Rattle.jsontext.proofs.runs.RunList.new.Goals as goal

pub returns : goal.returns
returns c = begun _ (rw (c.in_ok-extend_from_slice.ensures.items, c.new-text.ensures.items) refl) refl
