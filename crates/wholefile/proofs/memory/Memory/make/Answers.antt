use Rattle.wholefile.proofs.InSlots.{free}
use Rattle.wholefile.proofs.memory.Memory.make.Goals as goal

pub returns-clause-free : goal.returns-clause-free
returns-clause-free c = free c.args.self.now c.args.name.now c.in-New.ensures c.in-None.is
