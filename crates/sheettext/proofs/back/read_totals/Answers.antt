-- `read_totals` takes the first twelve numbers. Assumes nothing.
use mathlib.Core.Path.{ap}
use Rattle.sheet.specs.Totals.{lent_totals}
use Rattle.sheettext.specs.Back.{totals_in}
use Rattle.sheettext.proofs.back.read_totals.Goals as goal

pub returns : goal.returns
unfolding totals_in
returns c = ap lent_totals c.read_rows.ensures
