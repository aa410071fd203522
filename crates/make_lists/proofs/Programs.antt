-- What the commands make is what the station's programs print. Assumes nothing.
use Rattle.std.proofs.Common.{◌≡◌, ℕ, List, length, refl}
use Rattle.std.specs.Prelude.{Result, Ok, Err, ℤ}
use Rattle.rules.specs.Text.{Text}
use Rattle.rules.specs.Answer.{Answer, accepted, refused, and_then}
use Rattle.rules.specs.Assemble.{Place, Slices, assemble}
use Rattle.rules.specs.Relocate.{move_answer, move_slices}
use Rattle.rules.specs.Tally.{held}
use Rattle.requests.specs.Branches.{assemble_under}
use Rattle.requests.specs.ManualAssemble.{assemble_manual}
use Rattle.listing.specs.Listing.{list_text}
use Rattle.listing.specs.Reading.{read_list, places_in}
use Rattle.listing.specs.declared.reading.BadLine.{BadLine}
use Rattle.listing.proofs.RoundTrip.{length_places}
use Rattle.station.specs.Station.{answer_text, listed_text, script_text, filled_by, moved_slices_text, parsed_text, moved_text}
use Rattle.mantext.specs.Manlist.{manual_text}
use Rattle.branchtext.specs.BranchText.{list_under_text}
use Rattle.outcome.specs.Made.{told}
use Rattle.make_lists.specs.Moved.{moved_list, moved_lines}
use Rattle.make_lists.specs.Stations.{printed, SameTexts}

listed_same : (a : Answer (List Place)) → printed (told (λ l. list_text l) a) ≡ listed_text a
unfolding listed_text
listed_same (accepted l) = refl
listed_same (refused n p) = refl

-- a list moved, of as many places
answered_same : (a : Answer ℕ) (y : Slices) → printed (told (λ l. list_text l) (and_then a (λ n. accepted (held n y)))) ≡ answer_text a y
unfolding answer_text and_then
answered_same (accepted n) y = refl
answered_same (refused r p) y = refl

list_same : (d : ℤ) (l : List Place) (n : ℕ) → length l ≡ n → printed (told (λ ps. list_text ps) (moved_list d l)) ≡ moved_slices_text d n (filled_by l)
unfolding moved_list moved_slices_text
list_same d l n e = rw e (answered_same (move_answer (filled_by l) n d) (move_slices (filled_by l) n d))

lines_same : (d : ℤ) (t : Text) (r : Result ℕ BadLine) → printed (moved_lines d t r) ≡ parsed_text d t r
unfolding moved_lines parsed_text
lines_same d t (Ok n) = list_same d (places_in n t) n (length_places n t)
lines_same d t (Err e) = refl

pub same_texts : SameTexts
unfolding script_text list_under_text manual_text moved_text
same_texts =
    record {
      asmlist = λ s. listed_same (assemble 0 s);
      asmlist_under = λ t base s. listed_same (assemble_under t base s);
      manlist = λ base s. listed_same (assemble_manual base s);
      movelist = λ d t. lines_same d t (read_list 12288 t);
    }
