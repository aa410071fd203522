-- The name is a text, or is not.
use Rattle.std.proofs.Common.{refl, inr, codes}
use Rattle.cli_error.specs.declared.What.TheVariants.{Open}
use Rattle.cli_run.specs.Items.{unread}
use Rattle.cli_totals.specs.Sheeted.{bad_name}
use Rattle.cli_totals.proofs.adding.add_script.Goals as goal

pub returns-in-Ok : goal.returns-in-Ok
returns-in-Ok g c = rw c.in-Ok.ensures.cases.0 at c.add_file.ensures

pub returns-in-Err : goal.returns-in-Err
returns-in-Err g c =
    let n = c.args.name.now in
    (record { name = n; found = unread Open (codes "the name is not UTF-8") }, inr (c.in-Err.ensures.cases.0, refl, refl), (bad_name n, refl, c.answer_bad_name.ensures))
