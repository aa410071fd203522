-- `manual_size`: what the sizer makes. Assumes nothing.
use Rattle.requests.specs.ManualCall.{manual_size}
use Rattle.encode_manual.proofs.manual_size.Goals as goal

pub returns : goal.returns
unfolding manual_size
returns c = c.read_instruction.ensures
