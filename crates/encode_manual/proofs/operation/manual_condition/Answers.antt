-- `operation::manual_condition`, number by number. Assumes nothing.
use native.Mathlib.Omega.{arith}
use Rattle.encode_manual.specs.Heads.{manual_condition}
use Rattle.encode_manual.proofs.HeadsFound.{same_condition}
use Rattle.encode_manual.proofs.operation.manual_condition.Goals as goal

pub returns-in-8 : goal.returns-in-8
unfolding manual_condition
returns-in-8 c = rw c.in-8.is

pub returns-in-9 : goal.returns-in-9
unfolding manual_condition
returns-in-9 c = rw c.in-9.is

pub returns-in_default : goal.returns-in_default
returns-in_default c = same_condition _ (omega arith) (omega arith)
