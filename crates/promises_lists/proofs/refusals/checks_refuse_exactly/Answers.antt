use Rattle.promises.specs.Refusals as Refusals
use Rattle.promises_lists.specs.Checks as Checks
use Rattle.promises.proofs.Refusals.{checks_refuse_exactly}
use Rattle.promises_lists.proofs.refusals.checks_refuse_exactly.Goals as goal

pub returns : goal.returns
unfolding Refusals.ChecksRefuseExactly Checks.ChecksRefuseExactly
returns g c = checks_refuse_exactly _
