-- The room that was made does not show.
use Rattle.std.proofs.Common.{sym, ◌∙◌}
use Rattle.cli_lists.proofs.Few.{few_by}
use Rattle.cli_lists.proofs.Places.{kept_fit, enough, not_short}
use Rattle.cli_lists.proofs.listed.assemble_contents.Goals as goal

pub returns-then-is_short-clause-fits : goal.returns-then-is_short-clause-fits
returns-then-is_short-clause-fits c = kept_fit _ _ c.assemble_within.ensures

pub returns-then-is_short-clause-answers : goal.returns-then-is_short-clause-answers
returns-then-is_short-clause-answers c = λ s i.
    let e = (rw c.in-Whole.is at i).0 in
    rw (← e) (enough _ (few_by _ _) _ c.assemble_within.ensures)

pub returns-else-is_short-clause-fits : goal.returns-else-is_short-clause-fits
returns-else-is_short-clause-fits c = kept_fit _ _ c.assemble_within-listed.ensures

pub returns-else-is_short-clause-answers : goal.returns-else-is_short-clause-answers
returns-else-is_short-clause-answers c = λ s i.
    let e = (rw c.in-Whole.is at i).0 in
    rw (← e) (not_short c.first_room.result _ _ c.assemble_within-listed.ensures (sym c.is_short.ensures ∙ c.if-is_short.false))

pub returns-in-TooLong-clause-answers : goal.returns-in-TooLong-clause-answers
returns-in-TooLong-clause-answers c = λ s i. let k = rw c.in-TooLong.is at i in c.refuse_long.ensures s k.1 k.2
