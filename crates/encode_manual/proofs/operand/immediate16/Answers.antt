-- `operand::immediate16`: what failed does not count. Assumes nothing.
use mathlib.Core.Path.{◌∙◌}
use Rattle.rules.specs.Number.{imm16}
use Rattle.encode_manual.proofs.Operands.{not_there, there}
use Rattle.encode_manual.proofs.operand.immediate16.Goals as goal

pub returns-in_err-parse_immediate_u16 : goal.returns-in_err-parse_immediate_u16
unfolding imm16
returns-in_err-parse_immediate_u16 c = not_there _ c.parse_immediate_u16.ensures c.in_err-parse_immediate_u16.was c.from_residual.ensures

pub returns : goal.returns
unfolding imm16
returns c = c.ok.ensures.value ∙ there _ c.parse_immediate_u16.ensures c.in_ok-parse_immediate_u16.was
