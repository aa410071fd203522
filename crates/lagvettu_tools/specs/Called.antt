-- What `lagvettu_nearest` owes: its answer as numbers. Assumes nothing.
use Rattle.std.specs.Prelude.{ℕ}
use Rattle.rules.specs.Answer.{Answer, accepted, refused}
use Rattle.requests.specs.Nearest.{Nearest}

-- what it returns, and what it leaves in the numbers that the caller lends
pub data Nears : Answer Nearest → ℕ → ℕ → ℕ → ℕ → ℕ → Type 0 where
  of_label : (r : Nearest) → Nears (accepted r) 0 r.start r.length r.distance 0
  of_refusal : (n p : ℕ) → Nears (refused n p) n 0 0 0 p
