-- No list has more than three places for each line.
use Rattle.make_lists.proofs.Few.{manual_few}
use Rattle.make_lists.proofs.assembling.AssemblingManualMakeSCRIPT.make.Goals as goal

pub list_input-requires : goal.list_input-requires
list_input-requires c = manual_few _
