use Rattle.std.proofs.Common.{sym, ◌∙◌}
use Rattle.text.proofs.Compare.{same_starts}
use Rattle.wholefile.proofs.memory.is_same.Goals as goal

pub returns-then-s-t : goal.returns-then-s-t
returns-then-s-t c = c.starts_with.ensures ∙ sym (same_starts _ _ c.if-s-t.true)
