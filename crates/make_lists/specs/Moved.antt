-- A list that is moved: what `move` prints of its text. Assumes nothing.
use Rattle.std.specs.Prelude.{ℕ, ◌≡◌, ◌≤◌, ℤ, List, length, Result, Ok, Err}
use Rattle.rules.specs.Text.{Text}
use Rattle.rules.specs.Answer.{Answer, accepted, and_then}
use Rattle.rules.specs.Assemble.{Place, slices}
use Rattle.rules.specs.Relocate.{move_answer, move_slices}
use Rattle.rules.specs.Tally.{held}
use Rattle.listing.specs.Listing.{list_text}
use Rattle.listing.specs.Reading.{read_list, places_in}
use Rattle.listing.specs.declared.reading.BadLine.{BadLine}
use Rattle.station.specs.Station.{filled_by}
use Rattle.outcome.specs.Made.{Made, told, no_list}
use Rattle.make_lists.specs.declared.listed.Listed.{Listed}

-- the list l, moved by d as the mover moves slices that it fills, or the mover's refusal
unfoldable pub moved_list : ℤ → List Place → Answer (List Place)
moved_list d l = and_then (move_answer (filled_by l) (length l) d) (λ n. accepted (held n (move_slices (filled_by l) (length l) d)))

-- a text that is read as so many lines, or whose first wrong line is known
unfoldable pub moved_lines : ℤ → Text → Result ℕ BadLine → Made
moved_lines d t (Ok n) = told (λ l. list_text l) (moved_list d (places_in n t))
moved_lines d t (Err e) = no_list e.number

-- a text, of up to 12,288 lines, the longest list there is
abbrev pub moved : ℤ → Text → Made
moved d t = moved_lines d t (read_list 12288 t)

-- the list of a text fills its places; or the first wrong line is told
abbrev pub HoldsText : Text → Result Listed BadLine → Type 0
HoldsText t (Ok l) =
    (read_list 12288 t ≡ Ok l.count) × (l.count ≤ 12288) × (slices l.addresses.items l.words.items l.marks.items ≡ filled_by (places_in l.count t))
HoldsText t (Err e) = read_list 12288 t ≡ Err e
