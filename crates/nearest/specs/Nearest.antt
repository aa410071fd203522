-- The code's answer as the rules say it, and one label more. Assumes nothing.
use Rattle.std.specs.Prelude.{ℕ, cond, leb, Option, Some, Result, Ok, Err}
use Rattle.rules.specs.Label.{Label}
use Rattle.rules.specs.Answer.{Answer, accepted, refused}
use Rattle.requests.specs.Nearest.{Nearest as Ruled, nearer_of}
use Rattle.answer.specs.Refusal.{number_of, place_of}
use Rattle.answer.specs.declared.Refusal.{Refusal}
use Rattle.nearest.specs.declared.Nearest.{Nearest}

-- a label's numbers, or a refusal's number and place
abbrev pub nearest_of : Result Nearest Refusal → Answer Ruled
nearest_of (Ok n) = accepted (record { start = n.start; length = n.length; distance = n.distance })
nearest_of (Err e) = refused (number_of e) (place_of e)

-- the nearest with the label l put before the others, as `nearest_in` has it
abbrev pub with_label : ℕ → Label → Option Label → Option Label
with_label a l o = cond (leb l.address a) (Some (nearer_of l o)) o
