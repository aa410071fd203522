use Rattle.std.proofs.Common.{◌∙◌}
use Rattle.wholefile.proofs.Places.{put_file, named_as}
use Rattle.wholefile.proofs.placing.put_over.Goals as goal

pub returns-in-Ok-may_write : goal.returns-in-Ok-may_write
returns-in-Ok-may_write g c =
    put_file (g.D.Disk.settled c.replace.new.disk) (g.D.Disk.stays c.replace.new.disk) c.args.path.now c.as_str-in-Ok-may_write.result.now c.args.text.now c.args.old _ _ _
    c.replace.result (c.in-Ok-may_write.ensures.same ∙ c.in-Ok.ensures.same) c.requires
    (named_as c.args.path.now _ _ _ c.as_str-in-Ok-may_write.ensures.value c.in-Ok.ensures.leads) c.replace.ensures
