-- `read_totals` has before each line the totals of those before it. Assumes nothing.
use Rattle.sheet.proofs.Reading.{Counted}
use Rattle.sheet.proofs.lines.read_totals.Given as goal

abbrev pub invariant-loop-k : goal.invariant-loop-k
invariant-loop-k l = Counted l.labels l.cells l.pass l.totals l.address l.k
