-- `text_start` steps over spaces, and leaves other blanks to `after_blanks`. Assumes nothing.
use mathlib.Core.Path.{refl}
use Rattle.outline.proofs.Looking.{begun_ended, begun_there, begun_space}
use borrow.Author.Rules.{rules}
use Rattle.outline.proofs.text_start.Goals as goal

pub loop-i-init : goal.loop-i-init
loop-i-init c = record { within = search rules; same = refl }

pub returns-then-source-i-ne32 : goal.returns-then-source-i-ne32
returns-then-source-i-ne32 c = begun_there c.loop-i.invariant c.after_blanks.ensures

pub loop-i-preserved : goal.loop-i-preserved
loop-i-preserved c = begun_space c.loop-i.invariant (search rules) c.if-source-i-ne32.false

pub returns : goal.returns
returns c = search (begun_ended, rules)
