-- Each chunk that is read is added to what was read, and each read leaves less.
use Rattle.station.specs.Reads.{left}
use Rattle.sheettext.specs.Steps.{outcome}
use Rattle.sheettext.proofs.Filing.{Feeding}
use Rattle.plantsheet.proofs.add_names.Given as goal

abbrev pub invariant-loop-input : goal.invariant-loop-input
invariant-loop-input l = Feeding (outcome l.fn.first) l.name l.fed.held (outcome l.fed.step) l.input

abbrev pub decreases-loop-input : goal.decreases-loop-input
decreases-loop-input l = left l.input
