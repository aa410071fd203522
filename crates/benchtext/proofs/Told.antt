-- The line of what the bench answers is that of the definition's answer. Assumes nothing.
use Prim.Native.Nat.{ℕ}
use mathlib.Core.Path.{◌≡◌}
use mathlib.Core.List.{List}
use Rattle.std.specs.Prelude.{Option}
use Rattle.rules.specs.Answer.{Answer, accepted, refused}
use Rattle.machine.specs.Machine.{Run}
use Rattle.machine.specs.Bench.{registers_after}
use Rattle.machine.specs.declared.Ran.{Ran}
use Rattle.stepper.specs.Stepper.{ran_answer}
use Rattle.benchtext.specs.BenchText.{answered_text, run_line}

pub told_line : (o : Option ℕ) (a : Answer Ran) (told : Answer Run) (d d' : List ℕ) → a ≡ ran_answer told → d' ≡ registers_after told d
    → answered_text o a d' ≡ run_line o told
unfolding answered_text run_line registers_after
told_line o a (accepted r) d d' e f = rw (e, f)
told_line o a (refused n p) d d' e f = rw e
