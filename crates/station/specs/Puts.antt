-- What a call owes that puts an answer's text at the front of a slice, or refuses and writes nothing. Assumes nothing.
use Rattle.std.specs.Prelude.{ℕ, ◌≡◌, List, Result, Ok, Err}
use Rattle.rules.specs.Text.{Text}
use Rattle.rules.specs.Answer.{Answer, accepted, refused}
use Rattle.answer.specs.declared.Refusal.{Refusal}
use Rattle.answer.specs.Refusal.{number_of, place_of}
use Rattle.station.specs.Printed.{Printed}

-- an answer with the texts for what is accepted
abbrev pub texts : {A : Type 0} → (A → Text) → Answer A → Answer Text
texts f (accepted a) = accepted (f a)
texts f (refused n p) = refused n p

-- s, the answer's text; x, the slice before, y, after it, and r, what the call answers
abbrev pub Puts : Answer Text → Result ℕ Refusal → List ℕ → List ℕ → Type 0
Puts a (Ok n) x y = (s : Text) × (a ≡ accepted s) × Printed s n x y
Puts a (Err e) x y = (a ≡ refused (number_of e) (place_of e)) × (y ≡ x)
