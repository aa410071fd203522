-- `operation::one`, by the suffix and the operation. Assumes nothing.
use mathlib.Core.Path.{◌∙◌}
use Rattle.rules.specs.Option.{bind}
use Rattle.encode_manual.specs.Heads.{condition_by}
use Rattle.encode_manual.proofs.Forms.{no_reading}
use Rattle.encode_manual.proofs.Operations.{no_plain_one, no_long_one, no_suffix_one}
use Rattle.encode_manual.proofs.operation.one.Goals as goal

pub returns-in-Branch : goal.returns-in-Branch
unfolding bind
returns-in-Branch c = rw (c.in-None.is, c.in-Branch.is) (c.branch-manual_condition.ensures (condition_by _) (c.manual_condition.ensures ∙ c.requires _ c.in-Branch.is))

pub returns-in-Jmp : goal.returns-in-Jmp
unfolding bind
returns-in-Jmp c = rw (c.in-None.is, c.in-Jmp.is) c.jump.ensures

pub returns-in_default-o : goal.returns-in_default-o
returns-in_default-o c = rw (c.in-None.is, no_plain_one c.args.s.now c.args.o c.in_default-o.not-Branch c.in_default-o.not-Jmp) no_reading

pub returns-in-Tst : goal.returns-in-Tst
unfolding bind
returns-in-Tst c = rw (c.in-Long.is, c.in-Tst.is) c.test.ensures

pub returns-in_default-o-2 : goal.returns-in_default-o-2
returns-in_default-o-2 c = rw (c.in-Long.is, no_long_one c.args.s.now c.args.o c.in_default-o-2.not-Tst) no_reading

pub returns-in_default : goal.returns-in_default
returns-in_default c = rw (no_suffix_one c.args.s.now c.args.o _ c.in_default.not-None c.in_default.not-Long) no_reading
