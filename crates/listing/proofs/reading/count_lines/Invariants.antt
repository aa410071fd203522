-- What is left to read answers as the whole.
use Rattle.listing.proofs.Lines.{Counting}
use Rattle.listing.proofs.reading.count_lines.Given as goal

abbrev pub invariant-loop-n : goal.invariant-loop-n
invariant-loop-n l = Counting l.t l.room l.n
