-- The line is written. Assumes nothing.
use Rattle.std.proofs.Common.{rules}
use Rattle.listing.proofs.Adding.{adds_all}
use Rattle.station.proofs.Printed.{printed}
use Rattle.cli_lines.proofs.verdicts.put_line.Goals as goal

pub returns : goal.returns
returns c = let h = adds_all c.new-text.ensures c.push_verdict.ensures in printed _ _ _ _ h.0 (search rules)
