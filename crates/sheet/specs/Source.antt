-- A source's own totals: what its functions need. Assumes nothing.
use Rattle.std.specs.Prelude.{◌≡◌, List, ℕ, ◌≤◌, length}
use Rattle.rules.specs.Limits.{max_lines}
use Rattle.rules.specs.Text.{Text, cut_at}
use Rattle.label.specs.Labelled.{Labelled}
use Rattle.source.specs.Clear.{Clear}
use Rattle.first.specs.Pass.{Holds}
use Rattle.first.specs.declared.Pass.{Pass}

pub record PassTotalsNeeds (labels : Labelled) (cells : List ℕ) (pass : Pass) (lines : ℕ) : Type 0 where
  pub holds : Holds labels cells pass
  pub lines_are : lines ≡ length (cut_at 10 labels.source)
  pub read : pass.lines ≤ lines
  pub few : lines ≤ max_lines

-- a source that refusals 1 to 3 let pass, and how many lines it has
pub record Starting (source : Text) (lines : ℕ) : Type 0 where
  pub clear : Clear source
  pub lines_are : lines ≡ length (cut_at 10 source)
