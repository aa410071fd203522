use Rattle.wholefile.proofs.Places.{none_replaced, put_none}
use Rattle.wholefile.proofs.placing.put.Goals as goal

pub replace-requires : goal.replace-requires
replace-requires g c = none_replaced c.args.path.now _ _ c.in-Ok-None.ensures.same (rw c.in-Ok-None.field-0-is at c.in-Ok-None.ensures.seen)

pub returns-in-Ok-None : goal.returns-in-Ok-None
returns-in-Ok-None g c =
    put_none (g.D.Disk.settled c.replace.new.disk) (g.D.Disk.stays c.replace.new.disk) c.args.path.now c.args.text.now _ _ _ c.replace.result
    c.in-Ok-None.ensures.same (rw c.in-Ok-None.field-0-is at c.in-Ok-None.ensures.seen) c.replace.ensures
