-- What the read gave is kept after what was read before.
use Rattle.std.proofs.Common.{arith}
use Rattle.station.proofs.ReadOn.{read_on}
use Rattle.station.proofs.input.read_more.Goals as goal

pub returns-clause-by_index : goal.returns-clause-by_index
returns-clause-by_index g c = λ old x p.
    rw (c.keep.ensures, c.after_read.ensures.value, c.unwrap_or.ensures)
    (read_on p c.read.result c.ok-got.result c.read.new.buf c.ok-got.ensures.value (omega arith) c.read.ensures.bound c.read.ensures.bytes)
