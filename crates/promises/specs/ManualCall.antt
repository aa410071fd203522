-- The manual's call: an instruction's size, how many words there are, and that size and words are lawful. Assumes nothing.
use Rattle.std.specs.Prelude.{ℕ, ◌*◌, ◌≤◌, ◌≡◌, List, length, None, Some}
use Rattle.rules.specs.Limits.{max_lines}
use Rattle.rules.specs.Text.{Text, cut_at}
use Rattle.rules.specs.Line.{Instruction}
use Rattle.rules.specs.Label.{Table}
use Rattle.rules.specs.Encode.{Content}
use Rattle.rules.specs.Answer.{accepted}
use Rattle.rules.specs.Assemble.{Place, places_at}
use Rattle.requests.specs.ManualCall.{manual_size, manual_encode}
use Rattle.requests.specs.ManualAssemble.{assemble_manual}
use Rattle.promises.specs.Lawful.{Lawful}

-- "Each instruction's size is the length of its words, taken as if every label were recorded and every displacement fitted, and 0 if no
-- form fits then": whatever the labels and the address, in bytes; and 0 if with none of them there are words
pub record SizeIsLength : Type 0 where
  pub words : (ls : Table) (a : ℕ) (i : Instruction) (cs : List Content) → manual_encode ls a i ≡ Some cs → manual_size i ≡ 2 * length (places_at a cs)
  pub nothing : (i : Instruction) → ((ls : Table) (a : ℕ) → manual_encode ls a i ≡ None) → manual_size i ≡ 0

-- an instruction has at most three words
unfoldable pub ThreeWords : Type 0
ThreeWords = (i : Instruction) → manual_size i ≤ 2 * 3

-- so the promises of moving ask no more of them than they have
unfoldable pub ManualIsLawful : Type 0
ManualIsLawful = Lawful manual_size manual_encode 3

-- and a list has at most three places for each line, 12,288 in all
unfoldable pub AtMostThree : Type 0
AtMostThree =
    (s : Text) (b : ℕ) (l : List Place) → assemble_manual b s ≡ accepted l
    → (length l ≤ 3 * length (cut_at 10 s)) × (length l ≤ 3 * max_lines)
