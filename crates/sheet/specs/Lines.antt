-- The totals of the lines that are read: one line's, by its task and code, and all of them. Assumes nothing.
use Rattle.std.specs.Prelude.{◌≡◌, ℕ, ◌+◌, ◌*◌, ◌≤◌, length, Option, None, Some}
use mathlib.Core.List.{List, flat_map}
use Rattle.rules.specs.Limits.{max_source, max_lines}
use Rattle.rules.specs.Text.{Text}
use Rattle.rules.specs.Label.{Table}
use Rattle.rules.specs.Assemble.{Put, data_places, code_places}
use Rattle.requests.specs.Sheet.{skip, origin, bare_label, datum, emitting, wordless, ending, read_classes, how_many, marked_in, totals}
use Rattle.requests.specs.Sheet.{Totals as Said}
use Rattle.label.specs.Labelled.{Labelled}
use Rattle.line.specs.Line.{task_at, TaskIn}
use Rattle.line.specs.declared.Task.{Task}
use Rattle.cells.specs.Puts.{puts_of}
use Rattle.first.specs.Pass.{Holds}
use Rattle.first.specs.declared.Pass.{Pass}
use Rattle.encode.specs.Near.{Near}
use Rattle.encode.specs.declared.Code.{Code}
use Rattle.encode.specs.declared.Code.TheVariants.{Word, Value as WithValue, Label}
use Rattle.sheet.specs.declared.Totals.{Totals}
use Rattle.sheet.specs.Totals.{said, weight}

-- ---- an instruction, by its code
abbrev pub counted_code : Option Code → Said
counted_code None = totals 0 0 0 0 0 1 0 0 0 0 0 0
counted_code (Some (Word w)) = totals 0 0 0 0 1 0 0 1 0 0 0 0
counted_code (Some (WithValue w v)) = totals 0 0 0 0 1 0 0 2 0 0 0 0
counted_code (Some (Label w x)) = totals 0 0 0 0 1 0 0 2 1 0 0 0

-- ---- by what a line asks
-- what a task asks at an address
abbrev pub put_of : Text → ℕ → Task → Put
put_of source a task = record { address = a; task = task_at source task }

-- the totals of what some lines ask, by the labels ls: their classes, and their words
unfoldable pub tally_of : Table → List Put → Said
tally_of ls us =
    let cs = read_classes ls us in
    totals (how_many skip cs) (how_many origin cs) (how_many bare_label cs) (how_many datum cs) (how_many emitting cs) (how_many wordless cs) (how_many ending cs)
    (length (flat_map data_places us) + length (flat_map (code_places ls) us)) (marked_in (flat_map data_places us) + marked_in (flat_map (code_places ls) us)) 0 0 0

-- ---- contracts
pub record AddLineNeeds (t : Said) (labels : Labelled) (address : ℕ) (task : Task) : Type 0 where
  pub near : Near labels.table address
  pub short : length labels.source ≤ max_source
  pub within : TaskIn labels.source task
  pub low : weight t ≤ 4 * max_lines

pub record ReadTotalsNeeds (labels : Labelled) (cells : List ℕ) (pass : Pass) : Type 0 where
  pub holds : Holds labels cells pass
  pub few : pass.lines ≤ max_lines

-- those of the lines that are kept, and that they are low
pub record ReadTotalsGives (labels : Labelled) (cells : List ℕ) (pass : Pass) (r : Totals) : Type 0 where
  pub is : said r ≡ tally_of labels.table (puts_of labels.source pass.base cells pass.lines)
  pub low : weight (said r) ≤ 4 * pass.lines
