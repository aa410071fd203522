-- By a refusal's own number and place an answer is as it ever was. Assumes nothing.
use Rattle.std.specs.Prelude.{◌≡◌, refl, Result, Ok, Err}
use Rattle.answer.specs.Refusal.{number_of, place_of, answer_of}
use Rattle.answer.specs.declared.Refusal.{Refusal}
use Rattle.station.specs.Refused.{answer_by}

pub answer_by_refusal : {A : Type 0} (r : Result A Refusal) → answer_by number_of place_of r ≡ answer_of r
answer_by_refusal (Ok a) = refl
answer_by_refusal (Err e) = refl
