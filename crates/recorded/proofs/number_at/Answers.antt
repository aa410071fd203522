-- `number_at` meets its contract. Assumes nothing.
use Rattle.std.proofs.Common.{◌∙◌}
use Rattle.recorded.proofs.Bytes.{four_bytes}
use Rattle.recorded.proofs.number_at.Goals as goal

pub returns : goal.returns
returns c = c.number.ensures ∙ four_bytes _ _ c.requires
