-- `form::quickly` reads 1 to 8. Assumes nothing.
use mathlib.Core.Path.{◌∙◌}
use native.Mathlib.Omega.{arith}
use mir.Syntax.{w32}
use mir.Val.{SFits}
use mir.Facts.{to_z-of_z}
use Rattle.encode_manual.proofs.Operands.{no_quick, too_small, too_large, small_enough}
use Rattle.encode_manual.proofs.form.quickly.Goals as goal
use Rattle.encode_manual.proofs.form.quickly.Goals.{then-v-lt1-via-then-v-lt1, then-v-lt1-via-else-v-lt1+then-v-gt8}

pub returns-in_err-v : goal.returns-in_err-v
returns-in_err-v c = c.from_residual.ensures ∙ no_quick _ c.immediate8.ensures c.in_err-v.was

pub returns-then-v-lt1 : goal.returns-then-v-lt1
returns-then-v-lt1 c = let fit : SFits w32 c.in_ok-v.v = record { sfits = omega arith } in
    elim c.then-v-lt1.branch [
      | then-v-lt1-via-then-v-lt1 w ↦ too_small _ c.immediate8.ensures c.in_ok-v.was (rw (to_z-of_z fit) at w.if-v-lt1.true)
      | then-v-lt1-via-else-v-lt1+then-v-gt8 w ↦ too_large _ c.immediate8.ensures c.in_ok-v.was (rw (to_z-of_z fit) at w.if-v-gt8.true)
    ]

pub returns : goal.returns
returns c = let fit : SFits w32 c.in_ok-v.v = record { sfits = omega arith } in
    rw (to_z-of_z fit) (small_enough _ c.immediate8.ensures c.in_ok-v.was (rw (to_z-of_z fit) at c.if-v-lt1.false) (rw (to_z-of_z fit) at c.if-v-gt8.false))
