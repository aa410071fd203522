-- Moves made one after another: their answers and the slices after the last, for whatever slices are lent; and, where these hold an
-- accepted source's list or any of well paired marks, the tally's answers and its last list. Assumes nothing.
use Rattle.std.specs.Prelude.{ℕ, zero, suc, ◌≡◌, List, [], ◌∷◌, map, length, ℤ, pos}
use Rattle.rules.specs.Text.{Text}
use Rattle.rules.specs.Answer.{Answer, accepted, refused}
use Rattle.rules.specs.Assemble.{Place, Slices, assemble}
use Rattle.rules.specs.Relocate.{move_slices}
use Rattle.rules.specs.Tally.{Seen, held, tallied, tally}
use Rattle.promises.specs.MovedLists.{last_list}
use Rattle.promises.specs.Pairs.{Each, WellPaired, Sixteen}

-- the answer that a number and a place are: 0 and the count, or a refusal's
abbrev pub answer_from : ℕ → ℕ → Answer ℕ
answer_from zero p = accepted p
answer_from (suc n) p = refused (suc n) p

-- each move's answer
abbrev pub told : List Seen → List (Answer ℕ)
told seen = map (λ s. s.answer) seen

-- the slices after the last of the moves
unfoldable pub slices_after : ℕ → Slices → List ℤ → Slices
slices_after n x [] = x
slices_after n x (d ∷ ds) = slices_after n (move_slices x n d) ds

-- the slices x and the answers after the moves of the list l
pub record FollowsTally (l : List Place) (distances : List ℤ) (x : Slices) (rs : List (Answer ℕ)) : Type 0 where
  pub list : held (length l) x ≡ last_list l (tallied l (pos 0) distances)
  pub answers : rs ≡ told (tally l (pos 0) distances)

-- "each answer, and the list after each move, is that of" the tally, of the list of an accepted source in the slices x
abbrev pub IsTally : Slices → ℕ → List ℤ → Slices → List (Answer ℕ) → Type 0
IsTally x count distances y answers =
    (s : Text) (b : ℕ) (l : List Place) → assemble b s ≡ accepted l → count ≡ length l → held count x ≡ l → FollowsTally l distances y answers

-- so for every list of well paired marks
abbrev pub IsPairsTally : Slices → ℕ → List ℤ → Slices → List (Answer ℕ) → Type 0
IsPairsTally x count distances y answers =
    (l : List Place) → WellPaired l → Each Sixteen l → count ≡ length l → held count x ≡ l → FollowsTally l distances y answers
