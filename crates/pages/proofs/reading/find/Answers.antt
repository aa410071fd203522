use Rattle.pages.proofs.Cutting.{within}
use Rattle.pages.proofs.reading.find.Goals as goal

pub returns-clause-bound : goal.returns-clause-bound
returns-clause-bound c = within c.args.c c.args.text.now c.find_byte.result c.find_byte.ensures
