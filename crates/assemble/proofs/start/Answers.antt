use Rattle.std.proofs.lemmas.Result.{err_from_is_err_and}
use Rattle.assemble.proofs.Outcomes.{check_refuses, refuses_4}
use Rattle.assemble.proofs.start.Goals as goal

pub returns-in_err-lines-clause-refused : goal.returns-in_err-lines-clause-refused
returns-in_err-lines-clause-refused c = let p = err_from_is_err_and c.from_residual.result c.from_residual.ensures.1 in rw (p.1, p.2) (check_refuses _ _ _ _ c.in_err-lines.ensures.answer)

pub returns-then-base-ge-ADDRESS_LIMIT-clause-refused : goal.returns-then-base-ge-ADDRESS_LIMIT-clause-refused
returns-then-base-ge-ADDRESS_LIMIT-clause-refused c = refuses_4 c.in_ok-lines.ensures.clear c.if-base-ge-ADDRESS_LIMIT.true
