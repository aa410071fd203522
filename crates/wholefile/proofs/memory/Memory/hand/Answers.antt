use Rattle.std.proofs.Common.{sym}
use Rattle.wholefile.specs.Shelf.{given}
use Rattle.wholefile.proofs.InSlots.{changed, handed}
use Rattle.wholefile.proofs.memory.Memory.hand.Goals as goal

pub returns-in-Some-clause-given : goal.returns-in-Some-clause-given
returns-in-Some-clause-given c =
    changed c.args.self.now c.in-Some.file _ (given c.args.owner c.args.group) (sym c.in-Some.ensures.value)
    (handed c.in-Some.file c.args.owner c.args.group c.unwrap_or-file.result c.unwrap_or-file.ensures)
