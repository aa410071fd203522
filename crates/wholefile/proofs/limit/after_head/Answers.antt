use Rattle.std.proofs.Common.{refl}
use Rattle.rules.specs.Text.{bytes}
use Rattle.wholefile.specs.Limit.{head}
use Rattle.wholefile.proofs.Heads.{after_is}
use Rattle.wholefile.proofs.limit.after_head.Goals as goal

pub returns-then-starts_with : goal.returns-then-starts_with
unfolding bytes
returns-then-starts_with c = after_is head c.args.text.now 13 c.starts_with.result refl c.starts_with.ensures c.if-starts_with.true
