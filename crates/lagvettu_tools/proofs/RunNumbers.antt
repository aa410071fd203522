-- A run's numbers, from what the bench answers. Assumes nothing.
use Prim.Native.Nat.{ℕ}
use mathlib.Core.Path.{◌≡◌}
use Rattle.rules.specs.Answer.{Answer, accepted, refused}
use Rattle.machine.specs.Machine.{Run}
use Rattle.machine.specs.declared.Ran.{Ran}
use Rattle.stepper.specs.Stepper.{value_of, ran_answer}
use Rattle.numbers.specs.Ran.{end_number, flags_number, Numbers, of_run, not_run}

pub run_numbers : (told : Answer Run) {ran : Ran} {e f : ℕ} → accepted ran ≡ ran_answer told → e ≡ end_number ran.end → f ≡ flags_number ran.status.flags
    → Numbers told 0 e ran.steps ran.status.pc f 0
run_numbers (accepted r) {ran} d a b = let q : ran ≡ value_of r = cc in rw (a, b, q) (of_run r)
run_numbers (refused n p) d a b = absurd cc

pub refusal_numbers : (told : Answer Run) {n p : ℕ} → refused n p ≡ ran_answer told → Numbers told n 255 0 0 0 p
refusal_numbers (accepted r) d = absurd cc
refusal_numbers (refused m q) {n} {p} d = let a : n ≡ m = cc in let b : p ≡ q = cc in rw (a, b) (not_run m q)
