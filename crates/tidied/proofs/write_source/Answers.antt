-- What the writer wrote stands in the slice. Assumes nothing.
use Rattle.std.proofs.Common.{rules}
use Rattle.listing.proofs.Adding.{adds_all}
use Rattle.tidied.proofs.write_source.Goals as goal

pub returns-clause-out_after : goal.returns-clause-out_after
returns-clause-out_after c = let h = adds_all c.new-copy.ensures c.write_lines.ensures in search rules
