-- The text for a script: what is printed of an answer and of slices with at least 12,288 places is the script's list, or its refusal. Assumes nothing.
use Prim.Native.Nat.{ℕ, ◌≤◌}
use mathlib.Core.Path.{◌≡◌}
use mathlib.Core.List.{List}
use lib.ListN.{length}
use Rattle.rules.specs.Text.{Text}
use Rattle.rules.specs.Answer.{Answer, accepted, and_then}
use Rattle.rules.specs.Assemble.{Place, Slices, pass_at_by}
use Rattle.requests.specs.ManualAssemble.{assemble_manual, manual_answer, manual_slices}
use Rattle.station.specs.Station.{answer_text, listed_text}
use Rattle.station.proofs.Script.{list_printed}
use Rattle.station.proofs.ScriptInput.{RefusesLong, checks_long}
use Rattle.mantext.specs.Manlist.{manual_text}
use Rattle.promises.specs.ManualCall.{AtMostThree}
use Rattle.promises.proofs.ManualMovedLists.{at_most_three}

longest : (base : ℕ) (t : Text) (l : List Place) → assemble_manual base t ≡ accepted l → length l ≤ 12288
unfolding AtMostThree
longest base t l e = (at_most_three t base l e).1

-- after a call of the assembler
pub assembled : (base : ℕ) (t : Text) (x : Slices) → 12288 ≤ length x.addresses → 12288 ≤ length x.words → 12288 ≤ length x.marks
    → (r : Answer ℕ) (y : Slices) → r ≡ manual_answer base t x → y ≡ manual_slices base t x → answer_text r y ≡ manual_text base t
unfolding manual_text manual_answer manual_slices
assembled base t x a b c r y e f = rw (e, f) (list_printed 12288 (assemble_manual base t) (longest base t) x a b c)

pub manual_refuses_long : (base : ℕ) → RefusesLong (manual_text base)
unfolding manual_text listed_text assemble_manual pass_at_by and_then
manual_refuses_long base t h = rw (checks_long t _ h)
