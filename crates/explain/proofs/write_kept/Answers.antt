-- `write_kept` looks at tasks that the first pass left. Assumes nothing.
use Rattle.std.proofs.Common.{arith}
use Rattle.explain.proofs.Lines.{task_needs}
use Rattle.explain.proofs.write_kept.Goals as goal

pub why_task-requires : goal.why_task-requires
why_task-requires g c = task_needs c.requires.holds _ (omega arith) c.loop-k.invariant.here c.kept_line-kept.ensures
