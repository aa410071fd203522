-- `find_fault` keeps the codes of the first k lines. Assumes nothing.
use Rattle.emit.proofs.Finding.{Finding}
use Rattle.emit.proofs.codes.find_fault.Given as goal

abbrev pub invariant-loop-k : goal.invariant-loop-k
invariant-loop-k l = Finding l.labels l.cells l.initial.codes l.pass l.codes l.address l.count l.k
