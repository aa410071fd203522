-- A run more. Assumes nothing.
use Rattle.make_runs.proofs.Trying.{run_added, none_refused}
use Rattle.make_runs.proofs.rows.RunListRows.add.Goals as goal

pub returns-in-Ok-add-clause-ok : goal.returns-in-Ok-add-clause-ok
returns-in-Ok-add-clause-ok c = λ ts h.
    run_added c.args.work.now c.args.addresses.now c.args.words.now c.requires c.args.value ts c.in-Ok.ran _ _ _ c.in-Ok.ensures.answer c.in-Ok.ensures.registers (c.in-Ok-add.ensures ts h)

pub returns-in-Err-clause-err : goal.returns-in-Err-clause-err
returns-in-Err-clause-err c = absurd (none_refused c.args.work.now c.args.addresses.now c.args.words.now c.requires _ _ c.in-Err.ensures.answer)
