-- The first pass underway, by the sizes z: where it stands, what is left of it, and what one line leaves. Assumes nothing.
use Rattle.std.specs.Prelude.{◌≡◌, ℕ, suc, ◌+◌, ◌*◌, ◌≤◌, false, List, length, Option, None, Some, Result, Ok, Err}
use mathlib.Core.List.{◌++◌, flat_map}
use Rattle.rules.specs.Limits.{max_source, max_lines}
use Rattle.rules.specs.Text.{Text}
use Rattle.rules.specs.Line.{SourceLine}
use Rattle.rules.specs.Answer.{Answer, accepted, refused}
use Rattle.rules.specs.Assemble.{Sizes, Pass as Ruled, Put, is_end, data_places, first_pass_by}
use Rattle.text.specs.Breaks.{line_number}
use Rattle.answer.specs.Refusal.{number_of, place_of}
use Rattle.answer.specs.declared.Refusal.{Refusal}
use Rattle.outline.specs.Lines.{line_end, line_from, lines_from}
use Rattle.label.specs.Labelled.{Labelled}
use Rattle.line.specs.declared.Line.{Line}
use Rattle.line.specs.Line.{task_at, TaskIn, ReadLineGives}
use Rattle.line.specs.declared.Task.{Task}
use Rattle.cells.specs.Puts.{address_at, puts_of, LinesIn}
use Rattle.first.specs.Stopped.{stopped}
use Rattle.first.specs.Pass.{with_table, Unchanged}
use Rattle.first.specs.Names.{RoomFor, Grown}
use Rattle.first.specs.declared.Progress.{Progress}

-- a pass, and an answer, with lines that were taken before it
unfoldable pub after_puts : List Put → Ruled → Ruled
after_puts ps q = record { labels = q.labels; puts = ps ++ q.puts }

unfoldable pub answer_after : List Put → Answer Ruled → Answer Ruled
answer_after ps (accepted q) = accepted (after_puts ps q)
answer_after ps (refused n k) = refused n k

-- the line that the pass stands before, and the lines that are left
abbrev pub line_here : Text → Progress → SourceLine
line_here source p = record { number = suc p.lines; start = p.at; text = line_from source p.at }

abbrev pub lines_left : Text → Progress → List SourceLine
lines_left source p = lines_from source (suc p.lines) p.at

-- the pass so far
abbrev pub pass_so_far : Labelled → ℕ → List ℕ → Progress → Ruled
pass_so_far labels base cells p = record { labels = labels.table; puts = puts_of labels.source base cells p.lines }

-- what the whole pass comes to, and how far it goes: what is done, and then the lines that are left
abbrev pub answer_from : Sizes → Labelled → ℕ → List ℕ → Progress → Answer Ruled
answer_from z labels base cells p =
    answer_after (puts_of labels.source base cells p.lines) (first_pass_by z base p.address labels.table (lines_left labels.source p))

abbrev pub stop_from : Sizes → Labelled → ℕ → List ℕ → Progress → Ruled
stop_from z labels base cells p =
    after_puts (puts_of labels.source base cells p.lines) (stopped z base p.address labels.table (lines_left labels.source p))

-- the labels and the cells hold what is done, and have room for what is left: two labels and one line a line; the line ahead has the
-- number after the lines done
pub record Stands (z : Sizes) (labels : Labelled) (base : ℕ) (cells : List ℕ) (p : Progress) : Type 0 where
  pub short : length labels.source ≤ max_source
  pub kept : LinesIn z labels.source cells p.lines
  pub address : p.address ≡ address_at base cells p.lines
  pub number : p.at ≤ length labels.source → line_number labels.source p.at ≡ suc p.lines
  pub values : p.values ≡ length (flat_map data_places (puts_of labels.source base cells p.lines))
  pub rows : RoomFor (2 * length (lines_left labels.source p)) labels
  pub few : p.lines + length (lines_left labels.source p) ≤ max_lines
  pub room : 2 * (p.lines + length (lines_left labels.source p)) ≤ length cells

-- one line on: the whole comes to the same
pub record Going (z : Sizes) (labels : Labelled) (base : ℕ) (cells : List ℕ) (p q : Progress) (labels' : Labelled) (cells' : List ℕ) : Type 0 where
  pub stands : Stands z labels' base cells' q
  pub answer : answer_from z labels base cells p ≡ answer_from z labels' base cells' q
  pub stop : stop_from z labels base cells p ≡ stop_from z labels' base cells' q
  pub inside : p.at ≤ length labels.source
  pub starts : q.at ≡ suc (line_end labels.source p.at)
  pub lines : q.lines ≡ suc p.lines
  pub labels_now : labels' ≡ with_table labels'.table labels'.cells labels
  pub grown : Grown labels labels'
  pub cells_past : Unchanged (2 * q.lines) cells cells'

-- the pass stops: the whole comes to x, and no further line is kept
pub record Stopping (z : Sizes) (labels : Labelled) (base : ℕ) (cells : List ℕ) (p : Progress) (x : Answer Ruled) (labels' : Labelled) (cells' : List ℕ) : Type 0 where
  pub answer : answer_from z labels base cells p ≡ x
  pub labels_now : labels' ≡ with_table (stop_from z labels base cells p).labels labels'.cells labels
  pub grown : Grown labels labels'
  pub puts : (stop_from z labels base cells p).puts ≡ puts_of labels.source base cells p.lines
  pub same : cells' ≡ cells

abbrev pub Paced : Sizes → Labelled → ℕ → List ℕ → Progress → Result (Option Progress) Refusal → Labelled → List ℕ → Type 0
Paced z labels base cells p (Ok (Some q)) labels' cells' = Going z labels base cells p q labels' cells'
Paced z labels base cells p (Ok None) labels' cells' = (labels' ≡ labels) × Stopping z labels base cells p (accepted (pass_so_far labels base cells p)) labels' cells'
Paced z labels base cells p (Err e) labels' cells' = Stopping z labels base cells p (refused (number_of e) (place_of e)) labels' cells'

-- a line is left
pub record Ahead (z : Sizes) (labels : Labelled) (base : ℕ) (cells : List ℕ) (p : Progress) : Type 0 where
  pub stands : Stands z labels base cells p
  pub inside : p.at ≤ length labels.source

-- it is this line, with the next one at `next`, and does not end the pass
pub record TakeLineNeeds (z : Sizes) (labels : Labelled) (base : ℕ) (cells : List ℕ) (p : Progress) (l : Line) (next : ℕ) : Type 0 where
  pub needs : Ahead z labels base cells p
  pub reads : ReadLineGives labels.source p.at l
  pub goes_on : is_end (task_at labels.source l.task) ≡ false
  pub ends : next ≡ suc (line_end labels.source p.at)

-- a task of the source can be read
pub record Readable (source : Text) (task : Task) : Type 0 where
  pub within : TaskIn source task
  pub short : length source ≤ max_source
