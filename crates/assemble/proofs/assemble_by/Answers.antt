use Rattle.std.proofs.lemmas.Result.{err_from_is_err_and}
use Rattle.assemble.proofs.Outcomes.{refuses, keeps}
use Rattle.assemble.proofs.assemble_by.Goals as goal

pub returns-in_err-lines-clause-answer : goal.returns-in_err-lines-clause-answer
returns-in_err-lines-clause-answer g c = let p = err_from_is_err_and c.from_residual.result c.from_residual.ensures.1 in rw (p.1, p.2) (refuses _ _ _ _ _ (c.in_err-lines.ensures.refused _))

pub returns-in_err-lines-clause-slices : goal.returns-in_err-lines-clause-slices
returns-in_err-lines-clause-slices g c = keeps _ _ _ _ _ (c.in_err-lines.ensures.refused _)
