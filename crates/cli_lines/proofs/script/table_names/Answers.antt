-- Its front, if there is one. Assumes nothing.
use Rattle.std.proofs.Common.{Some, ap, refl}
use Rattle.rules.specs.Text.{Text}
use Rattle.cli_run.proofs.Blamed.{no_table, some_table}
use Rattle.cli_lines.proofs.script.table_names.Goals as goal

pub returns-in-Some : goal.returns-in-Some
returns-in-Some c = λ t h.
    let r = some_table t _ _ c.in-Some.is h in
    rw r.1 (ap (λ (s : Text). Some s) (c.front.ensures 97 r.0.text r.2.text))

pub returns-in-None : goal.returns-in-None
returns-in-None c = λ t h. rw (no_table t _ c.in-None.is h) refl
