-- What the steps of listing a source's symbols need and give. Assumes nothing.
use Rattle.std.specs.Prelude.{◌≡◌, ℕ, ◌≤◌, ◌<◌, cond, [], ◌∷◌, ltb, length, get_or, Option, None, Some}
use Rattle.rules.specs.Label.{Label, Table}
use Rattle.rules.specs.Answer.{accepted}
use Rattle.rules.specs.Assemble.{Pass, pass_at}
use Rattle.requests.specs.Symbols.{Rows}
use Rattle.text.specs.Breaks.{line_number}
use Rattle.label.specs.Labelled.{Labelled}

-- of two labels the one that starts first, where l counts only if it starts at i or later
unfoldable pub earlier_of : ℕ → Label → Option Label → Option Label
earlier_of i l None = cond (ltb l.start i) None (Some l)
earlier_of i l (Some m) = cond (ltb l.start i) (Some m) (cond (ltb l.start m.start) (Some l) (Some m))

-- of the labels that start at i or later the one that starts first
unfoldable pub next_in : ℕ → Table → Option Label
next_in i [] = None
next_in i (l ∷ t) = earlier_of i l (next_in i t)

-- the labels are those of an accepted pass, and each one's start tells its line
pub record HoldsPass (labels : Labelled) : Type 0 where
  pub base : ℕ
  pub pass : Pass
  pub passed : pass_at base labels.source ≡ accepted pass
  pub held : pass.labels ≡ labels.table
  pub told : (k : ℕ) (d : Label) → k < length labels.table → (get_or labels.table k d).line ≡ line_number labels.source (get_or labels.table k d).start

-- and the slices have room for them
pub record WriteRowsNeeds (labels : Labelled) (x : Rows) : Type 0 where
  pub holds : HoldsPass labels
  pub starts : length labels.table ≤ length x.starts
  pub lengths : length labels.table ≤ length x.lengths
  pub addresses : length labels.table ≤ length x.addresses
  pub lines : length labels.table ≤ length x.lines
