-- What `move` makes of a list's text. Assumes nothing.
use Rattle.std.specs.Prelude.{ℕ, ◌≡◌, ◌≤◌, ℤ, List, length, None, Result, Ok, Err}
use Rattle.rules.specs.Text.{Text}
use Rattle.rules.specs.Answer.{Answer, accepted, and_then}
use Rattle.rules.specs.Assemble.{Place, slices}
use Rattle.rules.specs.Relocate.{move_answer, move_slices}
use Rattle.rules.specs.Tally.{held}
use Rattle.listing.specs.Listing.{list_text}
use Rattle.listing.specs.Reading.{read_list, places_in}
use Rattle.listing.specs.declared.reading.BadLine.{BadLine}
use Rattle.station.specs.Station.{filled_by}
use Rattle.cli_error.specs.Fault.{no_list}
use Rattle.cli_error.specs.Answered.{Made, fails}
use Rattle.cli_run.specs.Input.{Named}
use Rattle.cli_run.specs.Told.{told}
use Rattle.cli_lists.specs.declared.listed.Listed.{Listed}

-- the list l, moved by d as the mover moves slices that it fills, or the mover's refusal
unfoldable pub moved_list : ℤ → List Place → Answer (List Place)
moved_list d l = and_then (move_answer (filled_by l) (length l) d) (λ n. accepted (held n (move_slices (filled_by l) (length l) d)))

-- the text of the list l of the text b, moved
abbrev pub listed_move : ℤ → Named → List Place → Made
listed_move d b l = told (λ ps. list_text ps) 196609 None b (moved_list d l)

-- a text that is read as so many lines, or whose first wrong line is known
unfoldable pub moved_lines : ℤ → Named → Text → Result ℕ BadLine → Made
moved_lines d b t (Ok n) = listed_move d b (places_in n t)
moved_lines d b t (Err e) = fails (no_list b.name e.number)

-- a text of up to 12,288 lines, the longest list there is
abbrev pub moved : ℤ → Named → Made
moved d b = moved_lines d b b.text (read_list 12288 b.text)

-- ---- in places

-- the list l fills its places
pub record Filled (l : List Place) (x : Listed) : Type 0 where
  pub count : length l ≡ x.count
  pub places : slices x.addresses.items x.words.items x.marks.items ≡ filled_by l

-- the list of a text fills its places; or its first wrong line
abbrev pub HoldsText : Text → Result Listed BadLine → Type 0
HoldsText t (Ok l) = (read_list 12288 t ≡ Ok l.count) × (l.count ≤ 12288) × Filled (places_in l.count t) l
HoldsText t (Err e) = read_list 12288 t ≡ Err e
