-- `why_line` looks at a task that the first pass left. Assumes nothing.
use Rattle.explain.proofs.Lines.{task_needs}
use Rattle.explain.proofs.why_line.Goals as goal

pub why_task-requires : goal.why_task-requires
why_task-requires c = task_needs c.requires.0 _ c.requires.1 c.line_address-address.ensures c.kept_line-kept.ensures
