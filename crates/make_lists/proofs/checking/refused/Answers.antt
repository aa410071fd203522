-- A refusal of the branch table has no row.
use Rattle.std.proofs.Common.{refl}
use Rattle.make_lists.proofs.Rows.{table_row, other_row}
use Rattle.make_lists.proofs.checking.refused.Goals as goal

pub returns-in-Table : goal.returns-in-Table
returns-in-Table c = table_row _ _ _ _ c.of_which-which.ensures c.in-Table.is

pub returns-in-Ok : goal.returns-in-Ok
returns-in-Ok c = (other_row _ _ _ _ c.of_which-which.ensures c.in_default.not-Table c.in-Ok.ensures, refl)
