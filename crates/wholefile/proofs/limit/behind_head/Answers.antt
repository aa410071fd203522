use Rattle.std.proofs.Common.{Some, None, refl, arith}
use Rattle.wholefile.specs.Limit.{head}
use Rattle.wholefile.proofs.Heads.{behind_found, behind_next, behind_none}
use Rattle.wholefile.proofs.limit.behind_head.Goals as goal

pub returns-in-Some : goal.returns-in-Some
returns-in-Some c = behind_found head c.args.text.now c.loop-i.i (omega arith) (Some c.in-Some.rest.now) c.in-Some.ensures c.loop-i.invariant c.in-Some.rest.now refl

pub loop-i-preserved : goal.loop-i-preserved
loop-i-preserved c = behind_next head c.args.text.now c.loop-i.i (omega arith) None c.in-None.ensures c.loop-i.invariant refl

pub returns : goal.returns
returns c = behind_none head c.args.text.now c.loop-i.i (omega arith) c.loop-i.invariant
