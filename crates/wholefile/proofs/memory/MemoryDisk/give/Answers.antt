use Rattle.std.proofs.Common.{Some, ap, ◌∙◌}
use Rattle.wholefile.specs.Shelf.{alter, given}
use Rattle.wholefile.specs.Slots.{new_name}
use Rattle.wholefile.proofs.InSlots.{on_ok}
use Rattle.wholefile.proofs.memory.MemoryDisk.give.Goals as goal

pub returns-clause-given : goal.returns-clause-given
returns-clause-given c = on_ok c.hand.result (λ e. ap Some (e ∙ ap (alter new_name (given c.args.owner c.args.group)) c.fails.ensures.same)) c.hand.ensures.given
