-- What the first pass, by the sizes z, needs and gives, and what it leaves in the labels and the cells for whoever goes on from there;
-- the plain names are of the stations' sizes. Assumes nothing.
use Rattle.std.specs.Prelude.{◌≡◌, ℕ, ◌*◌, List, length, drop, Result, Ok, Err}
use mathlib.Core.List.{flat_map}
use Rattle.rules.specs.Text.{Text}
use Rattle.rules.specs.Line.{size}
use Rattle.rules.specs.Label.{Table}
use Rattle.rules.specs.Answer.{Answer, accepted, refused}
use Rattle.rules.specs.Assemble.{Sizes, Pass as Ruled, Put, data_places, pass_at_by}
use Rattle.answer.specs.Refusal.{number_of, place_of}
use Rattle.answer.specs.declared.Refusal.{Refusal}
use Rattle.label.specs.Labelled.{Labelled}
use Rattle.cells.specs.Puts.{puts_of, LinesIn}
use Rattle.first.specs.declared.Pass.{Pass}

-- the labels t of the same source, in these cells, with the same room
abbrev pub with_table : Table → List ℕ → Labelled → Labelled
with_table t cells labels = record { source = labels.source; table = t; cells = cells; room = labels.room }

-- a slice is unchanged after n places
pub record Unchanged (n : ℕ) (xs ys : List ℕ) : Type 0 where
  pub long : length ys ≡ length xs
  pub past : drop n ys ≡ drop n xs

-- the pass that the labels and the cells hold
abbrev pub pass_in : Labelled → List ℕ → Pass → Ruled
pass_in labels cells p = record { labels = labels.table; puts = puts_of labels.source p.base cells p.lines }

-- what a pass answers, as the rules say it
abbrev pub entered : Labelled → List ℕ → Result Pass Refusal → Answer Ruled
entered labels cells (Ok p) = accepted (pass_in labels cells p)
entered labels cells (Err e) = refused (number_of e) (place_of e)

-- the cells hold what the lines ask, and are unchanged after them
pub record HoldsLines (z : Sizes) (source : Text) (base : ℕ) (ps : List Put) (cells cells' : List ℕ) : Type 0 where
  pub puts : puts_of source base cells' (length ps) ≡ ps
  pub kept : LinesIn z source cells' (length ps)
  pub long : length cells' ≡ length cells
  pub past : drop (2 * length ps) cells' ≡ drop (2 * length ps) cells

-- the counts of a pass that is done, and that its lines are in the cells
pub record IsDone (z : Sizes) (labels : Labelled) (b : ℕ) (cells : List ℕ) (p : Pass) : Type 0 where
  pub base : p.base ≡ b
  pub kept : LinesIn z labels.source cells p.lines
  pub values : p.values ≡ length (flat_map data_places (pass_in labels cells p).puts)

-- what an accepted pass leaves, for whoever goes on from it: the labels and the cells hold the pass of that source at that base
pub record HoldsBy (z : Sizes) (labels : Labelled) (cells : List ℕ) (p : Pass) : Type 0 where
  pub passed : pass_at_by z p.base labels.source ≡ accepted (pass_in labels cells p)
  pub lines : LinesIn z labels.source cells p.lines
  pub values : p.values ≡ length (flat_map data_places (pass_in labels cells p).puts)

abbrev pub Holds : Labelled → List ℕ → Pass → Type 0
Holds labels cells p = HoldsBy size labels cells p
