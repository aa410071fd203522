-- `task_code` goes by the task: a value and an instruction have a code, no other has. Assumes nothing.
use Rattle.printout.proofs.Coding.{instruction_code}
use Rattle.printout.proofs.task_code.Goals as goal

pub returns-in-Instruction : goal.returns-in-Instruction
returns-in-Instruction c = instruction_code _ _ _ _ _ _ _ c.in-Instruction.is (rw c.source-source.ensures at c.encode_instruction.ensures)
