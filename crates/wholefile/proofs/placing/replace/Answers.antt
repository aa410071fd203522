use Rattle.std.proofs.Common.{◌∙◌}
use Rattle.wholefile.proofs.Places.{unplaced_after}
use Rattle.wholefile.proofs.placing.replace.Goals as goal

pub returns-in-Ok-open_folder : goal.returns-in-Ok-open_folder
returns-in-Ok-open_folder g c = unplaced_after _ _ _ _ (c.in-Ok-open_folder.ensures.same ∙ c.in-Ok.ensures.same) c.in-Err-put_new.ensures
