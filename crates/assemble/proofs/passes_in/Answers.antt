use Rattle.std.proofs.Common.{◌∙◌}
use Rattle.std.proofs.lemmas.Result.{err_from_is_err_and}
use Rattle.assemble.proofs.Outcomes.{refuses, keeps, passes, done_holds, goes_on}
use Rattle.assemble.proofs.passes_in.Goals as goal

pub returns-in_err-pass-clause-answer : goal.returns-in_err-pass-clause-answer
returns-in_err-pass-clause-answer g c = let p = err_from_is_err_and c.from_residual.result c.from_residual.ensures.1 in rw (p.1, p.2) (refuses _ _ _ _ _ (passes c.requires.starting _ c.in_err-pass.ensures.answer))

pub returns-in_err-pass-clause-slices : goal.returns-in_err-pass-clause-slices
returns-in_err-pass-clause-slices g c = keeps _ _ _ _ _ (passes c.requires.starting _ c.in_err-pass.ensures.answer)

pub second_pass-requires-clause-holds : goal.second_pass-requires-clause-holds
second_pass-requires-clause-holds g c =
    let e = c.in_ok-pass.ensures in
    let d = rw e.labels at e.done in let a = rw e.labels at e.answer in
    rw e.labels (done_holds c.requires.starting a d)

pub returns-clause-answer : goal.returns-clause-answer
returns-clause-answer g c =
    c.second_pass.ensures.answer ∙ rw (goes_on c.requires.starting _ (g.C.Call.list c.args.call.now) c.in_ok-pass.ensures.answer)

pub returns-clause-slices : goal.returns-clause-slices
returns-clause-slices g c =
    c.second_pass.ensures.slices ∙ rw (goes_on c.requires.starting _ (g.C.Call.list c.args.call.now) c.in_ok-pass.ensures.answer)
