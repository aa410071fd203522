-- `after_blanks` steps over the line's leading blanks. Assumes nothing.
use mathlib.Core.Path.{refl, sym, ap, ◌∙◌}
use mathlib.Core.Bool.{not}
use Rattle.outline.proofs.Looking.{begun_ended, begun_over, begun_text, begun_more}
use borrow.Author.Rules.{rules}
use Rattle.outline.proofs.after_blanks.Goals as goal

pub loop-i-init : goal.loop-i-init
loop-i-init c = record { within = search rules; same = refl }

pub returns-then-source-i-eq10 : goal.returns-then-source-i-eq10
returns-then-source-i-eq10 c = search (begun_over, rules)

pub returns-then-not-is_blank : goal.returns-then-not-is_blank
returns-then-not-is_blank c = begun_text c.loop-i.invariant (search rules) c.if-source-i-eq10.false (sym (ap not c.is_blank.ensures) ∙ (ap not c.if-not-is_blank.true))

pub loop-i-preserved : goal.loop-i-preserved
loop-i-preserved c = begun_more c.loop-i.invariant (search rules) c.if-source-i-eq10.false (sym (ap not c.is_blank.ensures) ∙ (ap not c.if-not-is_blank.false))

pub returns : goal.returns
returns c = search (begun_ended, rules)
