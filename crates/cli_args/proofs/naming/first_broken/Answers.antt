-- The first by its text.
use Rattle.cli_args.specs.Asked.{is_broken}
use Rattle.cli_args.proofs.Gathered.{found_at}
use Rattle.cli_args.proofs.naming.first_broken.Goals as goal

pub returns : goal.returns
returns c = found_at is_broken (λ s. s.now) c.args.names.now _ c.found_broken.ensures
