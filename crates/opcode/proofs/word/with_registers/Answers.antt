-- `opcode::word::with_registers` meets its contract: a field from bit 9 on and a low one of three bits. Assumes nothing.
use mathlib.Core.Path.{◌∙◌}
use native.Mathlib.Omega.{arith}
use Rattle.rules.specs.Encode.{R}
use Rattle.rules.proofs.Fields.{fields}
use Rattle.opcode.proofs.word.with_registers.Goals as goal

pub returns : goal.returns
unfolding R
returns c =
    fields 16 9 3 3 c.args.opcode c.args.high c.args.low c.requires.0 (omega arith) c.requires.2 c.requires.1 (omega arith) ∙ omega arith
