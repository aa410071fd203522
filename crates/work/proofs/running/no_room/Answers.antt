use Rattle.std.proofs.Common.{refl}
use Rattle.diagnostic.specs.Said.{no_memory_text}
use Rattle.work.proofs.running.no_room.Goals as goal

pub returns : goal.returns
returns g c = (refl, c.say.ensures no_memory_text tt)
