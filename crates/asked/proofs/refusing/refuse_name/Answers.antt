use Rattle.std.proofs.Common.{refl}
use Rattle.diagnostic.specs.Said.{failed_text}
use Rattle.asked.specs.Names.{shown}
use Rattle.asked.specs.Refusing.{reason}
use Rattle.asked.proofs.refusing.refuse_name.Goals as goal

pub returns : goal.returns
returns g c = (c.new.result, refl, c.say.ensures (failed_text c.args.what (shown c.args.name.now) reason) c.no_name.ensures)
