-- `ended` prints nothing where the names were not read. Assumes nothing.
use Rattle.sheettext.proofs.Stepping.{ended_unread, ended_so}
use Rattle.sheettext.proofs.ended.Goals as goal

pub returns-then-input : goal.returns-then-input
returns-then-input g c = ended_unread _ _ c.if-input.true

pub returns : goal.returns
returns g c = ended_so _ _ c.if-input.false
