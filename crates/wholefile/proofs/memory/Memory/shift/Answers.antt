use Rattle.std.proofs.Common.{sym}
use Rattle.wholefile.proofs.InSlots.{taken_there}
use Rattle.wholefile.proofs.memory.Memory.shift.Goals as goal

pub returns-in-Some-clause-moved : goal.returns-in-Some-clause-moved
returns-in-Some-clause-moved c =
    taken_there c.args.self.now c.args.from.now c.args.to.now c.in-Some.file _ c.in-New.ensures c.in-Out.ensures (sym c.in-Some.ensures.value) c.in-Some.ensures.after
