use Rattle.std.proofs.Common.{length}
use Rattle.wholefile.proofs.Places.{made_new, puts_new}
use Rattle.wholefile.proofs.placing.put_by.Goals as goal

pub take_place-requires-clause-new : goal.take_place-requires-clause-new
take_place-requires-clause-new g c =
    made_new c.args.name.now c.args.to.now c.rights_for.result (length c.args.text.now) _ _ c.in-Ok.ensures.made c.requires.allowed c.requires.room

pub returns-in-Ok : goal.returns-in-Ok
returns-in-Ok g c =
    puts_new (g.D.Disk.stays c.take_place.new.disk) c.args.name.now c.args.to.now c.args.old c.args.text.now c.rights_for.result _ _ _ c.take_place.result
    c.rights_for.ensures c.in-Ok.ensures.free c.in-Ok.ensures.made c.take_place.ensures
