-- The JSON of the list that was read. Assumes nothing.
use Rattle.make_runs.specs.Runs.{json_text, runs_told}
use Rattle.make_runs.proofs.Lists.{so_made, so_not}
use Rattle.make_runs.proofs.json_of.Goals as goal

pub returns-in-Err : goal.returns-in-Err
returns-in-Err c = c.in-Err.ensures.list (runs_told json_text c.args.work.now)

pub returns-in-Ok-finish : goal.returns-in-Ok-finish
returns-in-Ok-finish c =
    let f = runs_told json_text c.args.work.now in
    let k = c.in-Ok-add_list.ensures c.in-Ok-new.ensures json_text in
    so_made f c.args.text.now _ _ _ _ (c.in-Ok.ensures.list f) c.deref.ensures.value c.deref_mut.ensures.value (json_text k.0) _ k.2 (c.in-Ok-finish.ensures k.0 k.1)

pub returns : goal.returns
returns c =
    let f = runs_told json_text c.args.work.now in
    so_not f c.args.text.now _ _ _ _ (c.in-Ok.ensures.list f) c.deref.ensures.value c.deref_mut.ensures.value _ (c.in-Err-add_list.ensures c.in-Ok-new.ensures json_text)
