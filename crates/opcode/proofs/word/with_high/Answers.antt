-- `opcode::word::with_high` meets its contract: a field from bit 9 on. Assumes nothing.
use mathlib.Core.Path.{◌∙◌}
use native.Mathlib.Omega.{arith}
use Rattle.rules.specs.Encode.{R}
use Rattle.rules.proofs.Fields.{field}
use Rattle.opcode.proofs.word.with_high.Goals as goal

pub returns : goal.returns
unfolding R
returns c = field 16 9 3 c.args.opcode c.args.high c.requires.0 (omega arith) c.requires.1 ∙ omega arith
