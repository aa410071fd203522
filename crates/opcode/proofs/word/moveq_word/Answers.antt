-- `opcode::word::moveq_word` meets its contract: a field from bit 9 on and a low one of eight bits. Assumes nothing.
use mathlib.Core.Path.{refl, ◌∙◌}
use native.Mathlib.Omega.{arith}
use Rattle.rules.specs.Encode.{R}
use Rattle.rules.proofs.Fields.{fields}
use Rattle.opcode.proofs.word.moveq_word.Goals as goal

pub returns : goal.returns
unfolding R
returns c = rw c.from.ensures (fields 16 9 3 8 0x7000 c.args.register c.args.byte c.requires (omega arith) refl (omega arith) (omega arith) ∙ omega arith)
