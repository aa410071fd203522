use Rattle.std.proofs.Common.{◌≡◌, drop}
use Rattle.wholefile.specs.Limit.{head, behind}
use Rattle.wholefile.proofs.limit.behind_head.Given as goal

abbrev pub invariant-loop-i : goal.invariant-loop-i
invariant-loop-i l = behind head l.text ≡ behind head (drop l.i l.text)
