-- `operand::immediate32`: what failed does not count. Assumes nothing.
use mathlib.Core.Path.{◌∙◌}
use Rattle.requests.specs.ManualCall.{imm32}
use Rattle.encode_manual.proofs.Operands.{not_there, there}
use Rattle.encode_manual.proofs.operand.immediate32.Goals as goal

pub returns-in_err-parse_immediate_u32 : goal.returns-in_err-parse_immediate_u32
unfolding imm32
returns-in_err-parse_immediate_u32 c = not_there _ c.parse_immediate_u32.ensures c.in_err-parse_immediate_u32.was c.from_residual.ensures

pub returns : goal.returns
unfolding imm32
returns c = c.ok.ensures.value ∙ there _ c.parse_immediate_u32.ensures c.in_ok-parse_immediate_u32.was
