use Rattle.wholefile.proofs.InSlots.{given_there}
use Rattle.wholefile.proofs.memory.Memory.give_device.Goals as goal

pub returns-in-Ok-clause-given : goal.returns-in-Ok-clause-given
returns-in-Ok-clause-given c = given_there c.args.self.now c.args.name.now c.args.text.now _ c.in-Device.ensures c.in-Ok.ensures.items
