-- The law, at the host's facts.
use Rattle.cli_totals.proofs.Gathering.{totals_of_all}
use Rattle.cli_totals.proofs.totals_of_all.Goals as goal

pub returns : goal.returns
returns g c = totals_of_all g.H.Host.world
