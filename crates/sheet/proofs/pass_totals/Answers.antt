-- `pass_totals` adds the lines that are read and what is counted once. Assumes nothing.
use Rattle.sheet.proofs.Owning.{pass_sheet}
use Rattle.sheet.proofs.pass_totals.Goals as goal

pub returns : goal.returns
returns c = pass_sheet c.requires c.read_totals-read.ensures _ c.len.ensures.count c.sum.ensures
