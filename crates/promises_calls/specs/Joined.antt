-- Two sheets joined, whatever totals they hold: exactly by which refusals, and what an accepted call adds. Assumes nothing.
use Rattle.std.specs.Prelude.{ℕ, ◌+◌, ◌^◌, ◌<◌, ◌≡◌, List, [], ◌∷◌}
use Rattle.rules.specs.Answer.{accepted}
use Rattle.requests.specs.Sheet.{Totals, add_sheet}
use Rattle.promises.specs.Stages.{Stage, all, RefusesExactly}
use Rattle.promises.specs.Sheet.{Added, OneOfTotals}

-- how many sources a sheet is of
abbrev pub sources_of : Totals → ℕ
sources_of t = t.accepted_sources + t.refused_sources

-- refusals 20 and 21 of joining t and u
pub data JoinCondition (t u : Totals) : ℕ → ℕ → Type 0 where
  -- more than 1,000,000 sources together; place 1,000,000
  sources_over : 1000000 < sources_of t + sources_of u → JoinCondition t u 20 1000000
  -- "21: a total handed in above 2^33; place 0", of the one sheet or of the other
  first_over : {n : ℕ} → OneOfTotals t n → 2 ^ 33 < n → JoinCondition t u 21 0
  second_over : {n : ℕ} → OneOfTotals u n → 2 ^ 33 < n → JoinCondition t u 21 0

-- 20 before 21
abbrev pub joining : List Stage
joining = all 20 ∷ all 21 ∷ []

unfoldable pub JoinRefusesExactly : Type 0
JoinRefusesExactly = (t u : Totals) → RefusesExactly joining (JoinCondition t u) (add_sheet t u)

-- an accepted call: no condition holds, and the sheets are added up, total by total
pub record SheetsJoined (t u v : Totals) : Type 0 where
  pub clear : (m q : ℕ) → ¬ JoinCondition t u m q
  pub added : Added t u v

unfoldable pub JoinAddsBoth : Type 0
JoinAddsBoth = (t u v : Totals) → add_sheet t u ≡ accepted v → SheetsJoined t u v
