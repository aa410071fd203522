-- The limits in numerals. In every other statement 32,768 bytes, 4,096 lines, 256 labels, 2^30, ±(2^30 − 1) and 2^30 + 1 stand through one name of
-- the rules each, on both sides, so that a wrong value would change both. Here no such name is used: of the calls it is said with the number itself
-- what they answer at a limit and past it. Assumes nothing.
use Rattle.std.specs.Prelude.{ℕ, suc, ◌<◌, ◌≤◌, ◌≡◌, ◌↔◌, cond, List, [], ◌∷◌, length, get_or, eqb, ℤ, pos, negsuc, ◌+ℤ◌, nat_abs}
use Rattle.rules.specs.Text.{Text}
use Rattle.rules.specs.Line.{line_of, size}
use Rattle.rules.specs.Answer.{Answer, accepted, refused}
use Rattle.rules.specs.Assemble.{Sizes, Place, Slices, pass_at_by, assemble, assemble_answer}
use Rattle.rules.specs.Relocate.{move_answer}
use Rattle.requests.specs.ManualCall.{manual_size}
use Rattle.requests.specs.ManualAssemble.{assemble_manual, manual_answer}
use Rattle.promises.specs.Refusals.{Lowest, IsLine, next_address, names_of, on_top, distinct, Reached, Shorter, BadMark}

-- how many bytes 10 a source has; it has one line more
unfoldable pub line_ends : Text → ℕ
line_ends [] = 0
line_ends (b ∷ s) = cond (eqb 10 b) (suc (line_ends s)) (line_ends s)

-- a source that is not refused for itself: of 32,768 bytes at most, none of them over 127, and of 4,096 lines at most
pub record SourceFits (s : Text) : Type 0 where
  pub bytes : length s ≤ 32768
  pub ascii : (i : ℕ) → i < length s → get_or s i 0 ≤ 127
  pub lines : suc (line_ends s) ≤ 4096

-- the line of index j is read, and the address after it is 2^30 = 1,073,741,824 or more
pub record Overrun (z : Sizes) (base : ℕ) (s : Text) (j : ℕ) : Type 0 where
  pub address : ℕ
  pub names : List Text
  pub line : Text
  pub reached : Reached z base s j address names
  pub is : IsLine s j line
  pub over : 1073741824 ≤ next_address z base address (line_of line).task

-- the line of index j is read, and its names and those before it are more than 256 different ones
pub record Overfull (z : Sizes) (base : ℕ) (s : Text) (j : ℕ) : Type 0 where
  pub address : ℕ
  pub names : List Text
  pub line : Text
  pub reached : Reached z base s j address names
  pub is : IsLine s j line
  pub over : 256 < distinct (on_top (names_of (line_of line)) names)

-- at place p, a line counted from 1, the address is the first thing to go over; or the names are, which are looked at first
pub record FirstOverrun (z : Sizes) (base : ℕ) (s : Text) (p : ℕ) : Type 0 where
  pub index : ℕ
  pub place : p ≡ suc index
  pub here : Overrun z base s index
  pub address : (i : ℕ) → i < index → ¬ Overrun z base s i
  pub names : (i : ℕ) → i ≤ index → ¬ Overfull z base s i

pub record FirstOverfull (z : Sizes) (base : ℕ) (s : Text) (p : ℕ) : Type 0 where
  pub index : ℕ
  pub place : p ≡ suc index
  pub here : Overfull z base s index
  pub address : (i : ℕ) → i < index → ¬ Overrun z base s i
  pub names : (i : ℕ) → i < index → ¬ Overfull z base s i

-- what a call answers of a source at a base, with the sizes z
pub record SourceLimits (z : Sizes) (base : ℕ) (s : Text) {A : Type 0} (r : Answer A) : Type 0 where
  -- a source of 32,768 bytes is not refused by 1, one of 32,769 is
  pub bytes : (p : ℕ) → (r ≡ refused 1 p) ↔ (32768 < length s) × (p ≡ length s)
  -- a byte 127 is not refused by 2, a byte 128 is
  pub ascii : (p : ℕ) → (r ≡ refused 2 p) ↔ (length s ≤ 32768) × Lowest (λ i. 127 < get_or s i 0) (length s) p
  -- 4,096 lines are not refused by 3, 4,097 are
  pub lines : (p : ℕ) → (r ≡ refused 3 p)
      ↔ (length s ≤ 32768) × ((i : ℕ) → i < length s → get_or s i 0 ≤ 127) × (4096 < suc (line_ends s)) × (p ≡ suc (line_ends s))
  -- the base 2^30 − 1 is not refused by 4, the base 2^30 = 1,073,741,824 is
  pub at_base : (p : ℕ) → (r ≡ refused 4 p) ↔ SourceFits s × (1073741824 ≤ base) × (p ≡ 0)
  -- nor is the address 2^30 − 1 after a line by 5, but 2^30 is
  pub address : (p : ℕ) → (r ≡ refused 5 p) ↔ SourceFits s × (base < 1073741824) × FirstOverrun z base s p
  -- 256 different names are not refused by 6, 257 are
  pub names : (p : ℕ) → (r ≡ refused 6 p) ↔ SourceFits s × (base < 1073741824) × FirstOverfull z base s p
  -- and what is accepted is within all of them
  pub within : (a : A) → r ≡ accepted a → SourceFits s × (base < 1073741824) × ((j : ℕ) → (¬ Overrun z base s j) × (¬ Overfull z base s j))

-- below 0, or above 2^30 + 1 = 1,073,741,825
pub data Astray : ℤ → Type 0 where
  out_below : {n : ℕ} → Astray (negsuc n)
  out_above : {n : ℕ} → 1073741825 < n → Astray (pos n)

-- what a move of count places by d answers
pub record DistanceLimits (x : Slices) (count : ℕ) (d : ℤ) (r : Answer ℕ) : Type 0 where
  -- the distances 2^30 − 1 = 1,073,741,823 and its opposite are not refused by 8, 2^30 and its opposite are
  pub distance : (p : ℕ) → (r ≡ refused 8 p) ↔ (1073741823 < nat_abs d) × (p ≡ 0)
  -- an address that becomes 0 or 2^30 + 1 is not refused by 11, one that becomes −1 or 2^30 + 2 is
  pub address : (p : ℕ) → (r ≡ refused 11 p)
      ↔ (nat_abs d ≤ 1073741823) × (¬ Shorter x count) × ((i : ℕ) → i < count → ¬ BadMark x.marks count i)
      × Lowest (λ i. Astray (pos (get_or x.addresses i 0) +ℤ d)) count p
  -- and what is accepted is within both
  pub within : (n : ℕ) → r ≡ accepted n → (nat_abs d ≤ 1073741823) × ((i : ℕ) → i < count → ¬ Astray (pos (get_or x.addresses i 0) +ℤ d))

-- so it is of the pass with any sizes, of both calls that assemble, and of a move; and two places for each of 4,096 lines are 8,192, three 12,288
pub record LimitsAreNumbers : Type 0 where
  pub passing : (z : Sizes) (base : ℕ) (s : Text) → SourceLimits z base s (pass_at_by z base s)
  pub assembling : (base : ℕ) (s : Text) (x : Slices) → SourceLimits size base s (assemble_answer base s x)
  pub manual : (base : ℕ) (s : Text) (x : Slices) → SourceLimits manual_size base s (manual_answer base s x)
  pub moving : (x : Slices) (count : ℕ) (d : ℤ) → DistanceLimits x count d (move_answer x count d)
  pub places : (base : ℕ) (s : Text) (l : List Place) → assemble base s ≡ accepted l → length l ≤ 8192
  pub manual_places : (base : ℕ) (s : Text) (l : List Place) → assemble_manual base s ≡ accepted l → length l ≤ 12288
