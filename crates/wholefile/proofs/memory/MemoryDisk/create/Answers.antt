use Rattle.wholefile.proofs.InSlots.{free_before, made_before}
use Rattle.wholefile.proofs.memory.MemoryDisk.create.Goals as goal

pub returns-in-Ok-clause-free : goal.returns-in-Ok-clause-free
returns-in-Ok-clause-free c = free_before _ _ c.args.name.now c.fails.ensures.same c.in-Ok.ensures.free

pub returns-in-Ok-clause-made : goal.returns-in-Ok-clause-made
returns-in-Ok-clause-made c = made_before _ _ _ c.args.name.now c.args.rights c.fails.ensures.same c.in-Ok.ensures.made
