-- What a call answers, where a refusal is whatever has a number and a place. Assumes nothing.
use Rattle.std.specs.Prelude.{ℕ, Result, Ok, Err}
use Rattle.rules.specs.Answer.{Answer, accepted, refused}

-- as the rules say it, by the two functions that tell the number and the place
abbrev pub answer_by : {A R : Type 0} → (R → ℕ) → (R → ℕ) → Result A R → Answer A
answer_by number place (Ok a) = accepted a
answer_by number place (Err r) = refused (number r) (place r)
