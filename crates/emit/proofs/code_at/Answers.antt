-- `code_at` encodes an instruction's text. Assumes nothing.
use Rattle.std.proofs.Common.{sym}
use Rattle.emit.proofs.LineCode.{no_instruction, instruction_places}
use Rattle.emit.proofs.code_at.Goals as goal

pub returns-in_default : goal.returns-in_default
returns-in_default c = sym (no_instruction _ _ _ _ c.args.task c.in_default.not-Instruction)

pub returns-in-Instruction : goal.returns-in-Instruction
returns-in-Instruction c = instruction_places _ _ _ _ c.args.task c.in-Instruction.is (rw c.source-source.ensures at c.encode_instruction.ensures)
