-- The lines of the rows so far are written. Assumes nothing.
use Rattle.listing.specs.Writer.{Adds}
use Rattle.requests.specs.Symbols.{rows}
use Rattle.symtext.specs.Rows.{lines_from}
use Rattle.symtext.proofs.push_lines.Given as goal

abbrev pub invariant-loop-k : goal.invariant-loop-k
invariant-loop-k l = Adds (lines_from l.source (rows l.starts l.lengths l.addresses l.lines) 0 l.k) l.initial.text l.text
