use Rattle.std.proofs.Common.{◌/◌, length, refl}
use Rattle.wholefile.proofs.InSlots.{poured_all, poured_half}
use Rattle.wholefile.proofs.memory.MemoryDisk.pour.Goals as goal

pub returns-then-fails : goal.returns-then-fails
returns-then-fails c =
    poured_half c.args.name.now c.args.text.now _ (length c.args.text.now / 2) _ _ _ c.give_device.result refl c.fails.ensures.same c.give_device.ensures.given c.give_device.ensures.same

pub returns : goal.returns
returns c = poured_all c.args.name.now c.args.text.now _ _ _ c.give_device-2.result c.fails.ensures.same c.give_device-2.ensures.given c.give_device-2.ensures.same
