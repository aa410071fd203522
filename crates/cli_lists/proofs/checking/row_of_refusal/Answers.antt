-- It has a row.
use Rattle.std.proofs.Common.{sym, ◌∙◌}
use Rattle.cli_run.proofs.Blamed.{no_table}
use Rattle.cli_lists.proofs.Rows.{row_refused, no_table_row}
use Rattle.cli_lists.proofs.checking.row_of_refusal.Goals as goal

pub returns-else-is_of_table : goal.returns-else-is_of_table
returns-else-is_of_table c = λ k t h.
    row_refused t c.args.name.now _ _ k _ (sym c.is_of_table.ensures ∙ c.if-is_of_table.false) (c.make_row.ensures _ k (rw c.as_bytes.ensures.value at c.refused_row.ensures))

pub returns-in-None : goal.returns-in-None
returns-in-None c = λ k t h.
    no_table_row t c.args.name.now _ _ k _ (no_table t _ c.in-None.is h) (c.make_row-in-None.ensures _ k (rw c.as_bytes-in-None.ensures.value at c.refused_row-in-None.ensures))
