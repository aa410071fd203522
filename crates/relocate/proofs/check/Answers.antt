use Rattle.std.proofs.Common.{sym, ◌∙◌, to_z-of_z}
use Rattle.relocate.proofs.Prefix.{none_passes}
use Rattle.relocate.proofs.Verdict.{refuses_11, accepts}
use Rattle.relocate.proofs.check.Goals as goal

pub returns-in-Some-first_outside-clause-answer : goal.returns-in-Some-first_outside-clause-answer
returns-in-Some-first_outside-clause-answer c =
    let d = to_z-of_z c.ranges.distance in
    sym (refuses_11 _ _ _ _ _ (sym (rw d at c.is_far.ensures) ∙ c.if-is_far.false) (sym c.is_short.ensures.short ∙ c.if-is_short.false)
    (sym c.first_bad_mark.ensures ∙ c.in_default.is) _ (sym (rw d at c.first_outside.ensures) ∙ c.in-Some-first_outside.is))

pub returns-clause-answer : goal.returns-clause-answer
returns-clause-answer c =
    let d = to_z-of_z c.ranges.distance in
    sym (accepts _ _ _ _ _ (sym (rw d at c.is_far.ensures) ∙ c.if-is_far.false) (sym c.is_short.ensures.short ∙ c.if-is_short.false)
    (sym c.first_bad_mark.ensures ∙ c.in_default.is) (sym (rw d at c.first_outside.ensures) ∙ c.in_default-first_outside.is))

pub returns-clause-stay : goal.returns-clause-stay
returns-clause-stay c =
    let d = to_z-of_z c.ranges.distance in
    none_passes _ _ (sym (rw d at c.first_outside.ensures) ∙ c.in_default-first_outside.is)
