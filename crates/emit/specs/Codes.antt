-- The codes of the manual's call, kept between its look for faults and its words: two cells a line, the first with the operation word and
-- how many words there are, the second with what stands after it. Assumes nothing.
use Rattle.std.specs.Prelude.{◌≡◌, cond, List, [], ℕ, ◌+◌, ◌*◌, ◌/◌, ◌%◌, ◌≤◌, ◌<◌, eqb, length, get_or, Option, None, Some, Result, Ok, Err}
use Rattle.rules.specs.Label.{Table}
use Rattle.rules.specs.Answer.{Answer as Ruled, accepted, and_then}
use Rattle.rules.specs.Assemble.{Put, Place, code_places_by}
use Rattle.requests.specs.ManualCall.{manual_size, manual_encode}
use Rattle.requests.specs.ManualAssemble.{task_fault}
use Rattle.answer.specs.Refusal.{number_of, place_of}
use Rattle.answer.specs.declared.Refusal.{Refusal}
use Rattle.label.specs.Labelled.{Labelled}
use Rattle.cells.specs.Cells.{InCells}
use Rattle.cells.specs.Puts.{put_at}
use Rattle.first.specs.Pass.{HoldsBy}
use Rattle.first.specs.declared.Pass.{Pass}
use Rattle.encode_manual.specs.Code.{places_of}
use Rattle.encode_manual.specs.declared.ManualCode.{ManualCode}
use Rattle.encode_manual.specs.declared.ManualCode.TheVariants.{Word, Value, Long, Address}

-- how many words a code has, and their places
abbrev pub manual_length : ManualCode → ℕ
manual_length (Word w) = 1
manual_length (Value w v) = 2
manual_length (Long w v) = 3
manual_length (Address w x) = 3

abbrev pub manual_places : ℕ → Option ManualCode → List Place
manual_places a None = []
manual_places a (Some c) = places_of a c

-- the code that two cells keep, if any
unfoldable pub code_in : ℕ → ℕ → Option ManualCode
code_in head tail =
    cond (eqb (head % 8) 1) (Some (Word (head / 8 % 65536)))
    (cond (eqb (head % 8) 2) (Some (Value (head / 8 % 65536) (tail % 65536)))
    (cond (eqb (head % 8) 3) (Some (Long (head / 8 % 65536) tail))
    (cond (eqb (head % 8) 7) (Some (Address (head / 8 % 65536) tail)) None)))

abbrev pub code_at : List ℕ → ℕ → Option ManualCode
code_at codes k = code_in (get_or codes (2 * k) 0) (get_or codes (2 * k + 1) 0)

-- line k's cells keep the code of its places
pub record CodeHeld (codes : List ℕ) (k : ℕ) (u : Put) (t : Table) : Type 0 where
  pub room : InCells codes k
  pub places : manual_places u.address (code_at codes k) ≡ code_places_by manual_encode t u

-- a code's cells
pub record CellsOfGives (code : Option ManualCode) (r : ℕ × ℕ) : Type 0 where
  pub back : code_in r.0 r.1 ≡ code
  pub words : (a : ℕ) → r.0 % 4 ≡ length (manual_places a code)

-- what line n, which asks u, comes to: its fault, or its code
abbrev pub CodeLineGives : Table → Put → ℕ → Result (Option ManualCode) Refusal → Type 0
CodeLineGives t u n (Err e) = (task_fault t u.address u.task ≡ Some (number_of e)) × (place_of e ≡ n)
CodeLineGives t u n (Ok code) = (task_fault t u.address u.task ≡ None) × (manual_places u.address code ≡ code_places_by manual_encode t u)

-- all lines of a pass have their codes kept
pub record CodesHeld (labels : Labelled) (cells codes : List ℕ) (pass : Pass) : Type 0 where
  pub line : (k : ℕ) → k < pass.lines → CodeHeld codes k (put_at labels.source pass.base cells k) labels.table

-- the labels and the cells hold a pass by the manual's sizes, and there are two cells a line for its codes
pub record FindFaultNeeds (labels : Labelled) (cells codes : List ℕ) (pass : Pass) : Type 0 where
  pub holds : HoldsBy manual_size labels cells pass
  pub room : 2 * pass.lines ≤ length codes

-- how long the list is, if no line has a fault
abbrev pub counted : Ruled (List Place) → Ruled ℕ
counted list = and_then list (λ l. accepted (length l))
