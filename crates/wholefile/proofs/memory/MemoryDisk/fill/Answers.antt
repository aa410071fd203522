use Rattle.std.proofs.Common.{◌/◌, length, take}
use Rattle.wholefile.specs.Shelf.{added}
use Rattle.wholefile.specs.Slots.{new_name}
use Rattle.wholefile.proofs.InSlots.{does_before}
use Rattle.wholefile.proofs.memory.MemoryDisk.fill.Goals as goal

pub returns-then-fails : goal.returns-then-fails
returns-then-fails c = does_before new_name (added (take (length c.args.text.now / 2) c.args.text.now)) _ _ _ c.add.result c.fails.ensures.same c.add.ensures
