use Rattle.promises.proofs.ManualFields as Fields
use Rattle.promises_lists.proofs.words.fields_hold.Goals as goal

-- src/words.rt:32:1
pub returns : goal.returns
returns c = Fields.fields_hold
