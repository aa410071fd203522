-- `list_text` meets its contract: an input not read to its end, and one whose front is kept. Assumes nothing.
use mathlib.Core.Path.{sym, ◌∙◌}
use mathlib.Core.Bool.{false≢true}
use native.Mathlib.Omega.{arith}
use mir.Facts.{to_z-of_z}
use Rattle.station.proofs.Printed.{printed_none}
use Rattle.station.proofs.Front.{list_failed, list_read, list_front_is_enough}
use Rattle.station.proofs.list_text.Goals as goal

pub returns-then-input : goal.returns-then-input
returns-then-input c = record { printed = rw (list_failed c.args.distance c.args.input c.args.list.now c.if-input.true) (printed_none _); list_value = (λ t r. list_front_is_enough _ _ _ t (λ f. absurd (false≢true (sym f ∙ c.if-input.true))) r) }

pub returns : goal.returns
returns c = record { printed = rw (← (list_read c.args.distance c.args.input c.args.list.now c.if-input.false c.min.result (omega arith))) (rw (to_z-of_z c.ranges.distance) at c.move_text.ensures); list_value = (λ t r. list_front_is_enough _ _ _ t (λ f. omega arith) r) }
