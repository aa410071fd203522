use Rattle.std.proofs.Common.{Some, ap}
use Rattle.wholefile.specs.Slots.{new_name}
use Rattle.wholefile.proofs.Steps.{as_before}
use Rattle.wholefile.proofs.memory.MemoryDisk.permit.Goals as goal

pub returns-then-fails : goal.returns-then-fails
returns-then-fails c = (λ f. f, as_before new_name _ _ (ap Some c.fails.ensures.same))
