-- `read_rows` has before each byte the numbers so far. Assumes nothing.
use Rattle.sheettext.proofs.ReadBack.{Rowed}
use Rattle.sheettext.proofs.back.read_rows.Given as goal

abbrev pub invariant-loop-byte : goal.invariant-loop-byte
invariant-loop-byte l = Rowed l.t l.initial.numbers l.row l.byte-index l.numbers
