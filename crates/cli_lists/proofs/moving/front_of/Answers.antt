-- What was kept is no longer.
use Rattle.cli_lists.proofs.Moves.{front_kept}
use Rattle.cli_lists.proofs.moving.front_of.Goals as goal

pub returns-clause-front : goal.returns-clause-front
returns-clause-front c = λ b i. front_kept _ b _ (c.front-front.ensures 196609 b i) c.min.ensures
