-- `arguments::read_limit` meets its contract: what is left to read, after the value so far, reads as the whole. Assumes nothing.
use Rattle.benchtext.proofs.Counting.{Counting}
use Rattle.benchtext.proofs.arguments.read_limit.Given as goal

abbrev pub invariant-loop-b : goal.invariant-loop-b
invariant-loop-b l = Counting l.t l.v l.b-index
