-- `operand::immediate8`: what failed does not count. Assumes nothing.
use mathlib.Core.Path.{◌∙◌}
use Rattle.rules.specs.Number.{imm8}
use Rattle.encode_manual.proofs.Operands.{not_there, there}
use Rattle.encode_manual.proofs.operand.immediate8.Goals as goal

pub returns-in_err-parse_immediate : goal.returns-in_err-parse_immediate
unfolding imm8
returns-in_err-parse_immediate c = not_there _ c.parse_immediate.ensures c.in_err-parse_immediate.was c.from_residual.ensures

pub returns : goal.returns
unfolding imm8
returns c = c.ok.ensures.value ∙ there _ c.parse_immediate.ensures c.in_ok-parse_immediate.was
