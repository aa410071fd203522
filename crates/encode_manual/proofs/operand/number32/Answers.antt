-- `operand::number32`: what failed does not count. Assumes nothing.
use mathlib.Core.Path.{◌∙◌}
use Rattle.requests.specs.ManualCall.{number32}
use Rattle.encode_manual.proofs.Operands.{value_read}
use Rattle.encode_manual.proofs.operand.number32.Goals as goal

pub returns : goal.returns
unfolding number32
returns c = c.ok.ensures.value ∙ rw c.parse_u32.ensures (value_read _)
