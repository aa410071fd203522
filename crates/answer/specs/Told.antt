-- An answer as the two numbers that C gets. Assumes nothing.
use Rattle.std.specs.Prelude.{ℕ}
use Rattle.rules.specs.Answer.{Answer, accepted, refused}

-- 0 for accepted, else the refusal's number
abbrev pub told_number : {A : Type 0} → Answer A → ℕ
told_number (accepted a) = 0
told_number (refused r p) = r

-- the count, or the refusal's place
abbrev pub told_place : Answer ℕ → ℕ
told_place (accepted n) = n
told_place (refused r p) = p
