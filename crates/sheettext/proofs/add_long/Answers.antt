-- `add_long` adds a source over the limit. Assumes nothing.
use mathlib.Core.Path.{ap, ◌∙◌}
use Rattle.sheettext.specs.Steps.{outcome_of, over_long}
use Rattle.sheettext.proofs.add_long.Goals as goal

pub returns : goal.returns
unfolding over_long
returns c = c.step_of.ensures ∙ ap outcome_of c.add_source.ensures
