-- `skip_to` stops at the first byte that passes. Assumes nothing.
use Rattle.text.proofs.Until.{until_found, until_unfound}
use Rattle.text.proofs.skip_to.Goals as goal

pub returns-in-Some : goal.returns-in-Some
returns-in-Some g c = until_found g.T.ByteTest.test _ _ _ c.in-Some.ensures

pub returns-in-None : goal.returns-in-None
returns-in-None g c = until_unfound g.T.ByteTest.test _ _ c.requires c.in-None.ensures
