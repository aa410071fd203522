-- `stepper::run` meets its contract. Assumes nothing.
use Rattle.std.proofs.lemmas.Bool.{lt-ltb, le-ltb}
use mathlib.Core.Path.{sym, ◌∙◌}
use Rattle.step.proofs.Judging.{judged}
use Rattle.stepper.proofs.Going.{made, spent, ends_halt, ends_word, ends_access}
use Rattle.stepper.proofs.run.Goals as goal

pub returns-then-not-go : goal.returns-then-not-go
returns-then-not-go c = rw c.ended.ensures (spent c.loop-form.invariant _ c.judge.ensures _ _ _ c.in-Runs.is c.if-not-go.true (le-ltb _ _ c.if-not-go.true) c.act.ensures)

pub act-requires : goal.act-requires
act-requires c = judged _ _ _ _ (sym c.judge.ensures ∙ c.in-Runs.is)

pub loop-form-preserved : goal.loop-form-preserved
loop-form-preserved c = made c.loop-form.invariant _ c.judge.ensures _ _ _ c.in-Runs.is c.if-not-go.false (lt-ltb _ _ c.if-not-go.false) c.act.ensures

pub returns-in-Halts : goal.returns-in-Halts
returns-in-Halts c = rw c.ended-in-Halts.ensures (ends_halt c.loop-form.invariant _ c.judge.ensures c.in-Halts.is)

pub returns-in-Unknown : goal.returns-in-Unknown
returns-in-Unknown c = rw c.ended-in-Unknown.ensures (ends_word c.loop-form.invariant _ c.judge.ensures c.in-Unknown.is)

pub returns-in-Outside : goal.returns-in-Outside
returns-in-Outside c = rw c.ended-in-Outside.ensures (ends_access c.loop-form.invariant _ c.judge.ensures c.in-Outside.is)
