-- What is kept is the front of what was read, and each read leaves less to be read.
use Rattle.station.specs.Reads.{left, ReadFrom}
use Rattle.station.proofs.input.read_whole.Given as goal

abbrev pub invariant-loop-input : goal.invariant-loop-input
invariant-loop-input g l = ReadFrom (g.R.Read.remaining l.initial.from) l.initial.buffer (g.R.Read.remaining l.from) l.buffer l.input

abbrev pub decreases-loop-input : goal.decreases-loop-input
decreases-loop-input g l = left l.input
