-- `len` answers the rows. Assumes nothing.
use Rattle.std.proofs.Common.{sym}
use Rattle.label.proofs.Table.{table_length, line_told}
use Rattle.label.proofs.Labels.len.Goals as goal

pub returns-clause-count : goal.returns-clause-count
returns-clause-count c = rw (← c.self.view_is) (sym (table_length _ _ _))

pub returns-clause-lines : goal.returns-clause-lines
returns-clause-lines c = rw (← c.self.view_is) (line_told _ _ _)
