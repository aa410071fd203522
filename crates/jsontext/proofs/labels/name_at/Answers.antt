-- There is no byte above 127. Assumes nothing.
use Rattle.std.proofs.Common.{◌+◌, ◌-◌}
use Rattle.jsontext.proofs.Names.{part_is_text}
use Rattle.jsontext.proofs.labels.name_at.Goals as goal

pub returns-in-Err : goal.returns-in-Err
returns-in-Err c = absurd (c.in-Err.ensures.cases.0 (part_is_text c.args.source.now c.args.start (c.args.start + c.args.length - c.args.start) c.requires.ascii))
