-- As much of the table as is kept is enough.
use Rattle.std.proofs.Common.{refl}
use Rattle.cli_run.proofs.Blamed.{no_table, some_table}
use Rattle.cli_lists.proofs.Few.{table_front}
use Rattle.cli_lists.proofs.call.call_of.Goals as goal

pub returns-in-Some : goal.returns-in-Some
returns-in-Some c = λ t s h.
    let r = some_table t _ _ c.in-Some.is h in
    rw (r.1, c.front.ensures 97 r.0.text r.2.text) (table_front r.0.text c.args.base s)

pub returns-in-None : goal.returns-in-None
returns-in-None c = λ t s h. rw (no_table t _ c.in-None.is h) refl
