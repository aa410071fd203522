use Rattle.std.proofs.Common.{◌≡◌}
use Rattle.asked.specs.Said.{wrong_text}
use Rattle.asked.proofs.misusing.misuse.Goals as goal

pub returns : goal.returns
returns g c = (c.misused.ensures, c.say.ensures (wrong_text c.args.wrong.now) c.wrong_text.ensures)
