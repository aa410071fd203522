-- One run. Assumes nothing.
use Rattle.make_runs.specs.Runs.{runs_of}
use Rattle.make_runs.proofs.rows.add_runs.Goals as goal

pub returns-in-None-clause-ok : goal.returns-in-None-clause-ok
unfolding runs_of
returns-in-None-clause-ok g c = λ h. rw (c.in-None.is) (c.add.ensures.ok _ h)
