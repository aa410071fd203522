-- A line more. Assumes nothing.
use Rattle.make_runs.proofs.Trying.{row_added}
use Rattle.make_runs.proofs.rows.LinesRows.add.Goals as goal

pub returns-in-Ok-clause-ok : goal.returns-in-Ok-clause-ok
returns-in-Ok-clause-ok c = λ ts h. row_added c.args.work.now c.args.addresses.now c.args.words.now c.requires c.args.value ts _ _ _ h c.write_list_run-n.ensures.front c.in-Ok.ensures.items
