-- What a call of the mover leaves in the slices where marks are 0 and 1: as it was before there were pairs, in plain integers. Assumes nothing.
use Rattle.std.specs.Prelude.{ℕ, ◌<◌, ◌≤◌, ◌≡◌, ◌≢◌, length, get_or, ℤ, pos, ◌+ℤ◌}
use Rattle.rules.specs.Answer.{accepted, refused}
use Rattle.rules.specs.Assemble.{Slices}
use Rattle.rules.specs.Relocate.{move_answer, move_slices}
use Rattle.promises.specs.Refusals.{Congruent, SamePast}
use Rattle.promises.specs.Pairs.{answer_before}

-- y is x with its first n places moved by d
pub record PlainMoved (n : ℕ) (d : ℤ) (x y : Slices) : Type 0 where
  -- "it adds the distance to each address"
  pub addresses : (i : ℕ) → i < n → pos (get_or y.addresses i 0) ≡ pos (get_or x.addresses i 0) +ℤ d
  -- "a marked word becomes (word + distance) modulo 65,536", and every other stays
  pub marked : (i : ℕ) → i < n → get_or x.marks i 0 ≡ 1
      → (get_or y.words i 0 < 65536) × Congruent 65536 (pos (get_or y.words i 0)) (pos (get_or x.words i 0) +ℤ d)
  pub others : (i : ℕ) → i < n → get_or x.marks i 0 ≢ 1 → get_or y.words i 0 ≡ get_or x.words i 0
  pub marks : y.marks ≡ x.marks
  -- and what lies past them
  pub past : SamePast n y x
  pub addresses_long : length y.addresses ≡ length x.addresses
  pub words_long : length y.words ≡ length x.words

-- where the first n marks are 0 and 1 the answer is the old one; a call that so is refused leaves all as it was, and one that is accepted
-- moves the first n places
pub record PlainCall (n : ℕ) (d : ℤ) (x : Slices) : Type 0 where
  pub answer : move_answer x n d ≡ answer_before x n d
  pub refusal : (r p : ℕ) → answer_before x n d ≡ refused r p → move_slices x n d ≡ x
  pub moved : (m : ℕ) → answer_before x n d ≡ accepted m → (m ≡ n) × PlainMoved n d x (move_slices x n d)

unfoldable pub SlicesMoveAsBefore : Type 0
SlicesMoveAsBefore = (x : Slices) (n : ℕ) → ((i : ℕ) → i < n → get_or x.marks i 0 ≤ 1) → (d : ℤ) → PlainCall n d x
