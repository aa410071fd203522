-- `stepper::run` meets its contract. Assumes nothing.
use Prim.Native.Nat.{◌-◌}
use Rattle.step.specs.Step.{state}
use Rattle.stepper.proofs.Going.{Going}
use Rattle.stepper.proofs.run.Given as goal

abbrev pub invariant-loop-form : goal.invariant-loop-form
invariant-loop-form l = Going l.limit (state l.initial.processor l.initial.mem) l.steps (state l.processor l.mem)

abbrev pub decreases-loop-form : goal.decreases-loop-form
decreases-loop-form l = l.limit - l.steps
