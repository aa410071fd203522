use Rattle.std.proofs.Common.{◌∙◌}
use Rattle.std.proofs.lemmas.Result.{err_from_is_err_and}
use Rattle.assemble.proofs.Outcomes.{under_refused, under_keeps, under_answer, under_slices}
use Rattle.assemble.proofs.assemble_branches.Goals as goal

pub returns-in_err-load_branches-clause-answer : goal.returns-in_err-load_branches-clause-answer
returns-in_err-load_branches-clause-answer c = let p = err_from_is_err_and c.from_residual.result c.from_residual.ensures.1 in rw (p.1, p.2) (under_refused _ _ _ _ _ _ c.in_err-load_branches.ensures)

pub returns-in_err-load_branches-clause-slices : goal.returns-in_err-load_branches-clause-slices
returns-in_err-load_branches-clause-slices c = under_keeps _ _ _ _ _ _ c.in_err-load_branches.ensures

pub returns-clause-answer : goal.returns-clause-answer
returns-clause-answer c = c.assemble_by.ensures.answer ∙ under_answer _ _ _ _ _ c.in_ok-load_branches.ensures

pub returns-clause-slices : goal.returns-clause-slices
returns-clause-slices c = c.assemble_by.ensures.slices ∙ under_slices _ _ _ _ _ c.in_ok-load_branches.ensures
