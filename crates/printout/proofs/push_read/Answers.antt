-- `push_read` writes the row of the task's code and of the verdict that is shown. Assumes nothing.
use Rattle.printout.proofs.Coding.{line_within, read_row_lem}
use Rattle.printout.proofs.push_read.Goals as goal

pub slice_bounds-bytes-end : goal.slice_bounds-bytes-end
slice_bounds-bytes-end c = rw c.source.ensures (line_within c.requires.1)

pub returns-clause-text : goal.returns-clause-text
returns-clause-text c =
    let reason = rw c.source.ensures at c.line_reason-reason.ensures in
    read_row_lem _ c.args.labels.now _ c.args.task _ _ c.requires.1.ends _ _ _ c.task_code-code.ensures c.why_task.ensures reason (rw c.source.ensures at c.push_row.ensures.text)
