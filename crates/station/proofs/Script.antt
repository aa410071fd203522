-- The text for a script: what is printed of an answer and of slices with at least 8,192 places is the script's list, or its refusal. Assumes nothing.
use Prim.Native.Nat.{ℕ, ◌≤◌}
use mathlib.Core.Path.{◌≡◌, refl, ap}
use mathlib.Core.List.{List}
use native.Mathlib.Omega.{arith}
use lib.ListN.{length}
use Rattle.rules.specs.Text.{Text}
use Rattle.rules.specs.Answer.{Answer, accepted, refused, refuse_if, and_then}
use Rattle.rules.specs.Assemble.{Place, Slices, assemble, assemble_answer, write_list, assemble_slices, assemble_by, pass_at_by, room}
use Rattle.promises.specs.Longest.{AtMostTwoALine}
use Rattle.promises.proofs.Longest.{at_most_two_a_line}
use Rattle.promises.proofs.Refusals.{written}
use Rattle.listing.specs.Listing.{list_text}
use Rattle.station.specs.Station.{answer_text, listed_text, script_text}
use Rattle.station.proofs.Moving.{long_enough}
use Rattle.station.proofs.ScriptInput.{RefusesLong, checks_long}

longest : (t : Text) (l : List Place) → assemble 0 t ≡ accepted l → length l ≤ 8192
unfolding AtMostTwoALine
longest t l e = (at_most_two_a_line t 0 l e).1

-- of any call that answers a list of at most n places: what is printed of slices with n places is the list, or the refusal
pub list_printed : (n : ℕ) (d : Answer (List Place)) → ((l : List Place) → d ≡ accepted l → length l ≤ n)
    → (x : Slices) → n ≤ length x.addresses → n ≤ length x.words → n ≤ length x.marks
    → answer_text (and_then d (room x)) (write_list d x) ≡ listed_text d
unfolding answer_text listed_text room and_then refuse_if write_list
list_printed n (refused r p) few x a b c = refl
list_printed n (accepted l) few x a b c =
    let k = few l refl in
    rw (long_enough x (length l) (omega arith) (omega arith) (omega arith), write_list) (ap list_text (written l x).0)

-- after a call of the assembler
pub assembled : (t : Text) (x : Slices) → 8192 ≤ length x.addresses → 8192 ≤ length x.words → 8192 ≤ length x.marks
    → (r : Answer ℕ) (y : Slices) → r ≡ assemble_answer 0 t x → y ≡ assemble_slices 0 t x → answer_text r y ≡ script_text t
unfolding script_text assemble_answer assemble_slices
assembled t x a b c r y e f = rw (e, f) (list_printed 8192 (assemble 0 t) (longest t) x a b c)

pub script_refuses_long : RefusesLong script_text
unfolding script_text listed_text pass_at_by assemble_by and_then
script_refuses_long t h = rw (checks_long t _ h)
