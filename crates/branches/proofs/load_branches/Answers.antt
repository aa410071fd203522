-- `load_branches`: command by command, to the end or the first fault. Assumes nothing.
use Rattle.std.proofs.Common.{sym, ◌∙◌, arith}
use Rattle.branches.proofs.Laws.{check_end, check_broken, check_misnamed}
use Rattle.branches.proofs.load_branches.Goals as goal

pub returns-then-is_end : goal.returns-then-is_end
returns-then-is_end c = check_end _ _ c.loop-k.invariant (sym c.is_end.ensures ∙ c.if-is_end.true)

pub returns-then-is_broken : goal.returns-then-is_broken
returns-then-is_broken c =
    check_broken _ _ c.loop-k.invariant (omega arith) (sym c.is_end.ensures ∙ c.if-is_end.false) (sym c.is_broken.ensures.broken ∙ c.if-is_broken.true)

pub returns-then-is_misnamed : goal.returns-then-is_misnamed
returns-then-is_misnamed c =
    check_misnamed _ _ c.loop-k.invariant (omega arith) (sym c.is_end.ensures ∙ c.if-is_end.false) (sym c.is_broken.ensures.broken ∙ c.if-is_broken.false)
    (sym c.is_misnamed.ensures ∙ c.if-is_misnamed.true)
