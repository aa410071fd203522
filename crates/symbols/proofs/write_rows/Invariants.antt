-- `write_rows` has before each row the first k labels written, and the others still to be put. Assumes nothing.
use Rattle.std.proofs.Common.{◌-◌, ◌+◌, length}
use Rattle.requests.specs.Symbols.{rows}
use Rattle.symbols.proofs.Listing.{Listing}
use Rattle.symbols.proofs.write_rows.Given as goal

abbrev pub invariant-loop-row : goal.invariant-loop-row
invariant-loop-row l = Listing l.labels (rows l.initial.starts l.initial.lengths l.initial.addresses l.initial.lines) (rows l.starts l.lengths l.addresses l.lines) l.line l.at l.from l.k

abbrev pub decreases-loop-row : goal.decreases-loop-row
decreases-loop-row l = length l.labels.source + 1 - l.from
