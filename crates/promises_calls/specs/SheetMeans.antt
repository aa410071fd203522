-- The mean of every series: its two numbers are the words of the lists of its accepted sources, and how many these are. Assumes nothing.
use Rattle.std.specs.Prelude.{ℕ, suc, ◌+◌, ◌≡◌, List, [], ◌∷◌, length}
use Rattle.rules.specs.Text.{Text}
use Rattle.rules.specs.Line.{size}
use Rattle.rules.specs.Answer.{accepted}
use Rattle.rules.specs.Assemble.{Place, assemble}
use Rattle.requests.specs.Sheet.{Totals, plant_sheet, mean_of}
use Rattle.promises.specs.Refusals.{PassCondition}

-- of a series, source by source: the words of the lists, and the number of accepted scripts
pub data WordsAndScripts : List Text → ℕ → ℕ → Type 0 where
  no_script : WordsAndScripts [] 0 0
  listed_script : {s : Text} {ss : List Text} {l : List Place} {n k : ℕ} → assemble 0 s ≡ accepted l → WordsAndScripts ss n k
      → WordsAndScripts (s ∷ ss) (length l + n) (suc k)
  refused_script : {s : Text} {ss : List Text} {m q n k : ℕ} → PassCondition size 0 s m q → WordsAndScripts ss n k → WordsAndScripts (s ∷ ss) n k

-- "The mean of words per script is given as two whole numbers, words and accepted scripts."
unfoldable pub MeansAreGiven : Type 0
MeansAreGiven = (ss : List Text) (t : Totals) → plant_sheet ss ≡ accepted t → WordsAndScripts ss (mean_of t).words (mean_of t).scripts
