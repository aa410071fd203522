-- `opcode::word::branch_word` meets its contract: a field from bit 8 on and a low one of eight bits. Assumes nothing.
use mathlib.Core.Path.{refl, ◌∙◌}
use native.Mathlib.Omega.{arith}
use Rattle.rules.proofs.Fields.{fields}
use Rattle.opcode.proofs.word.branch_word.Goals as goal

pub returns : goal.returns
returns c = rw (c.from.ensures, c.from-2.ensures) (fields 16 8 4 8 0x6000 c.args.condition c.args.byte c.requires (omega arith) refl (omega arith) (omega arith) ∙ omega arith)
