-- Before the first read nothing is kept.
use Rattle.station.proofs.ReadOn.{read_none}
use Rattle.station.proofs.input.read_whole.Goals as goal

pub loop-input-init : goal.loop-input-init
loop-input-init g c = rw c.start-input.ensures (read_none _ _)
