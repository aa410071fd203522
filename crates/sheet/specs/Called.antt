-- What the sheet's calls from C owe: their answer as numbers, and the twelve totals afterwards. Assumes nothing.
use Rattle.std.specs.Prelude.{ℕ, ◌≡◌, List}
use Rattle.rules.specs.Answer.{Answer, accepted, refused}
use Rattle.requests.specs.Sheet.{Totals, numbers_in}

-- the contract of both calls, lent the numbers ns, which they leave as ms: accepted with place 0 and the new totals, or refused and "No
-- total changes"
abbrev pub AddsTotals : Answer Totals → List ℕ → ℕ → ℕ → List ℕ → Type 0
AddsTotals (accepted t) ns n p ms = (n ≡ 0) × (p ≡ 0) × (ms ≡ numbers_in t)
AddsTotals (refused m q) ns n p ms = (n ≡ m) × (p ≡ q) × (ms ≡ ns)
