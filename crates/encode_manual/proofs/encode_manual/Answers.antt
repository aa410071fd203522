-- `encode_manual`: what the encoder makes. Assumes nothing.
use Rattle.requests.specs.ManualCall.{manual_size, manual_fault, manual_encode}
use Rattle.encode_manual.proofs.encode_manual.Goals as goal

pub returns-clause-size : goal.returns-clause-size
unfolding manual_size
returns-clause-size c = c.read_instruction.ensures.sized

pub returns-clause-fault : goal.returns-clause-fault
unfolding manual_fault
returns-clause-fault c = c.read_instruction.ensures.fault

pub returns-clause-words : goal.returns-clause-words
unfolding manual_encode
returns-clause-words c = c.read_instruction.ensures.words
