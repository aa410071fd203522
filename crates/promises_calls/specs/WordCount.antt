-- How many words an instruction of the manual's call has. Assumes nothing.
use Rattle.std.specs.Prelude.{ℕ, zero, suc, ◌≤◌, ◌≡◌, List, [], ◌∷◌, length, Some}
use Rattle.rules.specs.Line.{Instruction}
use Rattle.rules.specs.Label.{Table}
use Rattle.rules.specs.Encode.{Content, literal, address, long_address}
use Rattle.rules.specs.Assemble.{places_at}
use Rattle.requests.specs.ManualCall.{manual_encode}

-- contents that take n words: a label's address of 32 bits two, all else one
pub data WordsTaken : List Content → ℕ → Type 0 where
  takes_none : WordsTaken [] zero
  takes_number : {w n : ℕ} {cs : List Content} → WordsTaken cs n → WordsTaken (literal w ∷ cs) (suc n)
  takes_address : {x n : ℕ} {cs : List Content} → WordsTaken cs n → WordsTaken (address x ∷ cs) (suc n)
  takes_long : {x n : ℕ} {cs : List Content} → WordsTaken cs n → WordsTaken (long_address x ∷ cs) (suc (suc n))

-- an instruction that has words has at most three, and has as many places in the list: whatever the labels and its address
unfoldable pub ThreeWordsAtMost : Type 0
ThreeWordsAtMost =
    (ls : Table) (a : ℕ) (i : Instruction) (cs : List Content) → manual_encode ls a i ≡ Some cs
    → (n : ℕ) × WordsTaken cs n × (n ≤ 3) × (length (places_at a cs) ≡ n)
