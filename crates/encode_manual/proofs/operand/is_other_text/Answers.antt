-- `operand::is_other_text` goes by the operand's kind. Assumes nothing.
use Rattle.encode_manual.proofs.Operands.{is_text, no_text}
use Rattle.encode_manual.proofs.operand.is_other_text.Goals as goal

pub returns-in-Text : goal.returns-in-Text
returns-in-Text c = is_text _ c.kind_of.ensures c.in-Text.is

pub returns-in_default : goal.returns-in_default
returns-in_default c = no_text _ c.kind_of.ensures c.in_default.not-Text
