use Rattle.std.proofs.Common.{length, ◌∙◌}
use Rattle.wholefile.specs.Put.{finished}
use Rattle.wholefile.proofs.Steps.{ready}
use Rattle.wholefile.proofs.placing.take_place.Goals as goal

pub rename-requires : goal.rename-requires
rename-requires g c = let k = c.in-Ok.ensures in
    ready c.args.name.now c.args.to.now (length c.args.text.now) c.args.old c.args.text.now k.0 _ _ c.requires.new (rw c.requires.named at k.1)

pub returns-in-Ok : goal.returns-in-Ok
returns-in-Ok g c = let k = c.in-Ok.ensures in
    c.undo.ensures _ (finished c.args.old c.args.text.now k.0) (c.in-Err-rename.ensures.same ∙ (rw c.requires.named at k.1))

pub returns : goal.returns
returns g c = let k = c.in-Err.ensures in c.undo-in-Err.ensures _ k.0 (rw c.requires.named at k.1)
