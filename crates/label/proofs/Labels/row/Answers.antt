-- `row` reads a row. Assumes nothing.
use Rattle.std.proofs.Common.{arith, ◌<◌, ◌∙◌}
use Rattle.label.proofs.Table.{table_length, numbers_at}
use Rattle.label.proofs.Labels.row.Goals as goal
use Rattle.label.proofs.Labels.row.Goals.{After-self}

upto : (c : After-self) → c.args.k < c.self.inside.count
upto c = omega (arith, rw (← c.self.view_is) at c.requires, table_length c.self.inside.source.now c.self.inside.cells.now c.self.inside.count)

pub read_row-requires : goal.read_row-requires
read_row-requires c = omega (arith, upto (goal.at.read_row-requires c).After-self, c.self.invariant.held.rows)

pub returns : goal.returns
returns c = λ d. rw (← c.self.view_is) (c.read_row.ensures ∙ numbers_at c.self.invariant.held d (upto (goal.at.returns c).After-self))
