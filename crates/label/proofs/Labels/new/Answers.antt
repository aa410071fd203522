-- `new` holds cells whose heads are 0. Assumes nothing.
use Rattle.label.proofs.Table.{held_heads, table_empty}
use Rattle.label.proofs.Labels.new.Goals as goal

pub invariant_of-result : goal.invariant_of-result
invariant_of-result c = record { held = held_heads _ c.requires }

pub returns-clause-table : goal.returns-clause-table
returns-clause-table c = table_empty _ _
