use Rattle.asked.specs.Names.{is_broken}
use Rattle.asked.proofs.Texts.{found_at}
use Rattle.asked.proofs.naming.first_broken.Goals as goal

pub returns : goal.returns
returns c = found_at (λ s. s.now) is_broken c.args.names.now _ c.found_broken.ensures
