-- `data_line` records a label of step 5 that is not empty. Assumes nothing.
use Rattle.line.proofs.Data.{data_bare, data_named}
use Rattle.line.proofs.data_line.Goals as goal

pub returns-then-length-gt0 : goal.returns-then-length-gt0
returns-then-length-gt0 c = data_named _ c.requires.0 c.requires.1 c.data_head-head.ensures c.data_task-task.ensures c.if-length-gt0.true

pub returns-else-length-gt0 : goal.returns-else-length-gt0
returns-else-length-gt0 c = data_bare _ c.requires.0 c.requires.1 c.data_head-head.ensures c.data_task-task.ensures c.if-length-gt0.false
