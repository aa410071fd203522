use Rattle.std.proofs.Common.{◌∙◌}
use Rattle.text.proofs.Compare.{starts_slice}
use Rattle.text.proofs.starts_with.Goals as goal

pub returns : goal.returns
returns c = c.starts_with.ensures.value ∙ starts_slice _ _
