-- `is_over` looks at the twelve. Assumes nothing.
use Rattle.sheet.specs.Totals.{said}
use Rattle.sheet.proofs.Adding.{over_low}
use Rattle.sheet.proofs.sums.is_over.Goals as goal

pub returns-clause-low : goal.returns-clause-low
returns-clause-low c = rw c.has_high.ensures (over_low _ (said c.args.t) c.from.ensures)
