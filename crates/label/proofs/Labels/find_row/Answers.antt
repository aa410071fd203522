-- `find_row` looks among the rows of the name's hash. Assumes nothing.
use Rattle.std.proofs.Common.{refl}
use Rattle.label.proofs.Labels.find_row.Goals as goal

pub returns-then-self-eq0 : goal.returns-then-self-eq0
unfolding Rattle.label.specs.Table.row_of Rattle.label.specs.Table.table_of
returns-then-self-eq0 c = rw (← c.self.view_is, c.if-self-eq0.true) refl
