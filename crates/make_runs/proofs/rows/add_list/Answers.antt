-- The refusal, or the runs. Assumes nothing.
use Rattle.std.proofs.Common.{rules}
use Rattle.make_runs.proofs.Trying.{told_refused, told_runs}
use Rattle.make_runs.proofs.rows.add_list.Goals as goal

pub returns-in-Err : goal.returns-in-Err
returns-in-Err g c = λ h f. told_refused c.args.work.now c.args.addresses.now c.args.words.now _ _ c.in-Err.ensures.answer f

pub returns-in-Ok : goal.returns-in-Ok
returns-in-Ok g c = λ h f. let a = c.args in (_, c.in-Ok.ensures.ok h, told_runs a.work.now a.addresses.now a.words.now (search rules) f)
