-- `opcode::word::with_low` meets its contract: a low field of three bits. Assumes nothing.
use Rattle.rules.proofs.Fields.{low}
use Rattle.opcode.proofs.word.with_low.Goals as goal

pub returns : goal.returns
returns c = low 3 c.args.opcode c.args.low c.requires.0 c.requires.1
