-- `write_bytes` meets its contract: the bytes that are left are still to be put. Assumes nothing.
use Rattle.std.specs.Prelude.{◌+◌, drop}
use Rattle.text.proofs.Over.{Putting}
use Rattle.listing.proofs.writing.write_bytes.Given as goal

abbrev pub invariant-loop-i : goal.invariant-loop-i
invariant-loop-i l = Putting l.at l.text l.initial.out (l.at + l.i) (drop l.i l.text) l.out
