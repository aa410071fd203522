-- `after_label` cuts at the first colon. Assumes nothing.
use Rattle.std.proofs.Common.{◌+◌, sym, ap, ◌∙◌, arith}
use Rattle.rules.specs.Text.{trim}
use Rattle.text.proofs.Find.{Indexed, indexed, unindexed}
use Rattle.text.proofs.Kept.{rest_is}
use Rattle.directive.proofs.Steps.{uncut_rest, after_colon_lem}
use Rattle.directive.proofs.after_label.Goals as goal
use Rattle.directive.proofs.after_label.Goals.{In-Some}

colon : (c : In-Some) → Indexed 58 c.args.t.now c.in-Some.colon
colon c = indexed _ _ _ (sym c.find_byte.ensures ∙ c.in-Some.is)

pub overflow_add-colon : goal.overflow_add-colon
overflow_add-colon c = omega (arith, (colon c).within)

pub slice_bounds-trimmed-count : goal.slice_bounds-trimmed-count
slice_bounds-trimmed-count c = omega (arith, (colon c).within)

pub slice_bounds-trimmed-start : goal.slice_bounds-trimmed-start
slice_bounds-trimmed-start c = omega (arith, (colon c).within)

pub returns-in-Some : goal.returns-in-Some
returns-in-Some c = c.trimmed.ensures ∙ (ap trim (rest_is _ (c.in-Some.colon + 1)) ∙ sym (after_colon_lem _ (colon (goal.at.returns-in-Some c).In-Some)))

pub returns-in-None : goal.returns-in-None
returns-in-None c = uncut_rest _ (unindexed _ _ (sym c.find_byte.ensures ∙ c.in-None.is)).cut
