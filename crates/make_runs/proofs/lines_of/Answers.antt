-- The lines of the list that was read. Assumes nothing.
use Rattle.make_runs.specs.Runs.{rows_text, runs_told}
use Rattle.make_runs.proofs.Lists.{so_made, so_not}
use Rattle.make_runs.proofs.lines_of.Goals as goal

pub returns-in-Err : goal.returns-in-Err
returns-in-Err c = c.in-Err.ensures.list (runs_told rows_text c.args.work.now)

pub returns-in-Ok-add_list : goal.returns-in-Ok-add_list
unfolding rows_text
returns-in-Ok-add_list c =
    let f = runs_told rows_text c.args.work.now in
    let k = c.in-Ok-add_list.ensures c.new-rows.ensures rows_text in
    so_made f c.args.text.now _ _ _ _ (c.in-Ok.ensures.list f) c.deref.ensures.value c.deref_mut.ensures.value (rows_text k.0) _ k.2 k.1

pub returns : goal.returns
unfolding rows_text
returns c =
    let f = runs_told rows_text c.args.work.now in
    so_not f c.args.text.now _ _ _ _ (c.in-Ok.ensures.list f) c.deref.ensures.value c.deref_mut.ensures.value _ (c.in-Err-add_list.ensures c.new-rows.ensures rows_text)
