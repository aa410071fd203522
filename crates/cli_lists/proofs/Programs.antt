-- What the commands make is what the station's programs print. Assumes nothing.
use Rattle.std.proofs.Common.{◌≡◌, ℕ, ◌||◌, Bool, true, false, cond, eqb, List, [], length, refl}
use Rattle.std.specs.Prelude.{Option, None, Some, Result, Ok, Err, ℤ}
use Rattle.rules.specs.Text.{Text}
use Rattle.rules.specs.Answer.{Answer, accepted, refused, and_then}
use Rattle.rules.specs.Assemble.{Place, Slices, assemble}
use Rattle.rules.specs.Relocate.{move_answer, move_slices}
use Rattle.rules.specs.Tally.{held}
use Rattle.requests.specs.Branches.{assemble_under}
use Rattle.requests.specs.ManualAssemble.{assemble_manual}
use Rattle.listing.specs.Listing.{list_text, refused_text}
use Rattle.listing.specs.Reading.{read_list, places_in}
use Rattle.listing.specs.declared.reading.BadLine.{BadLine}
use Rattle.listing.proofs.RoundTrip.{length_places}
use Rattle.station.specs.Station.{answer_text, listed_text, script_text, filled_by, moved_slices_text, parsed_text, moved_text}
use Rattle.mantext.specs.Manlist.{manual_text}
use Rattle.branchtext.specs.BranchText.{list_under_text}
use Rattle.cli_error.specs.Fault as Why
use Rattle.cli_run.specs.Input.{Named}
use Rattle.cli_run.specs.Told.{of_input, blamed, told}
use Rattle.cli_lists.specs.Moved.{moved_list, listed_move, moved_lines}
use Rattle.cli_lists.specs.Stations.{printed_fault, printed, SameTexts}

-- the file that a refusal is of is not printed
blamed_same : (kept : ℕ) (t : Option Named) (b : Named) (n p : ℕ) → printed_fault (blamed kept t b n p) ≡ refused_text n p
blamed_same kept None b n p = refl
blamed_same kept (Some t) b n p = go (eqb n 16 || eqb n 17)
  where
    go : (y : Bool) → printed_fault (cond y (Why.refused t.name n p []) (of_input kept b n p)) ≡ refused_text n p
    go true = refl
    go false = refl

listed_same : (kept : ℕ) (t : Option Named) (b : Named) (a : Answer (List Place)) → printed (told (λ l. list_text l) kept t b a) ≡ listed_text a
unfolding listed_text
listed_same kept t b (accepted l) = refl
listed_same kept t b (refused n p) = blamed_same kept t b n p

-- a list moved, of as many places
answered_same : (b : Named) (a : Answer ℕ) (y : Slices)
    → printed (told (λ l. list_text l) 196609 None b (and_then a (λ n. accepted (held n y)))) ≡ answer_text a y
unfolding answer_text and_then
answered_same b (accepted n) y = refl
answered_same b (refused r p) y = refl

list_same : (d : ℤ) (b : Named) (l : List Place) (n : ℕ) → length l ≡ n → printed (listed_move d b l) ≡ moved_slices_text d n (filled_by l)
unfolding moved_list moved_slices_text
list_same d b l n e = rw e (answered_same b (move_answer (filled_by l) n d) (move_slices (filled_by l) n d))

lines_same : (d : ℤ) (b : Named) (t : Text) (r : Result ℕ BadLine) → printed (moved_lines d b t r) ≡ parsed_text d t r
unfolding moved_lines parsed_text
lines_same d b t (Ok n) = list_same d b (places_in n t) n (length_places n t)
lines_same d b t (Err e) = refl

pub same_texts : SameTexts
unfolding script_text list_under_text manual_text moved_text
same_texts =
    record {
      asmlist = λ b. listed_same 32768 None b (assemble 0 b.text);
      asmlist_under = λ t b base. listed_same 32768 (Some t) b (assemble_under t.text base b.text);
      manlist = λ base b. listed_same 32768 None b (assemble_manual base b.text);
      movelist = λ d b. lines_same d b b.text (read_list 12288 b.text);
    }
