-- What the calls of a sheet leave in the twelve totals that they are lent. Assumes nothing.
use Rattle.std.specs.Prelude.{ℕ, ◌≡◌, List, length}
use Rattle.rules.specs.Text.{Text}
use Rattle.requests.specs.Sheet.{add_source, add_sheet}
use Rattle.promises.specs.Stages.{FirstOf}
use Rattle.promises.specs.Sheet.{SheetCondition, sheeting, SourceAdded}
use Rattle.sheet.specs.Totals.{lent_totals}
use Rattle.sheet.specs.Called.{AddsTotals}
use Rattle.promises_calls.specs.Joined.{JoinCondition, joining, SheetsJoined}

-- a call that is lent the twelve numbers ns, answers n and the place p, and leaves the numbers ms: accepted with 0 and the sum, or refused,
-- by the first condition that holds, and every number is as it was
pub data JoinLeaves (ns os : List ℕ) : ℕ → ℕ → List ℕ → Type 0 where
  sum_left : {ms : List ℕ} → SheetsJoined (lent_totals ns) (lent_totals os) (lent_totals ms) → length ms ≡ 12 → JoinLeaves ns os 0 0 ms
  join_refused : {n p : ℕ} → FirstOf joining (JoinCondition (lent_totals ns) (lent_totals os)) n p → JoinLeaves ns os n p ns

unfoldable pub JoinCallLeaves : Type 0
JoinCallLeaves = (ns os ms : List ℕ) (n p : ℕ) → AddsTotals (add_sheet (lent_totals ns) (lent_totals os)) ns n p ms → JoinLeaves ns os n p ms

-- the same of a call that adds a source
pub data SourceLeaves (ns : List ℕ) (s : Text) : ℕ → ℕ → List ℕ → Type 0 where
  source_left : {ms : List ℕ} → SourceAdded (lent_totals ns) s (lent_totals ms) → length ms ≡ 12 → SourceLeaves ns s 0 0 ms
  source_refused : {n p : ℕ} → FirstOf sheeting (SheetCondition (lent_totals ns)) n p → SourceLeaves ns s n p ns

unfoldable pub SourceCallLeaves : Type 0
SourceCallLeaves = (ns ms : List ℕ) (s : Text) (n p : ℕ) → AddsTotals (add_source (lent_totals ns) s) ns n p ms → SourceLeaves ns s n p ms
