-- The mover, for every list of well paired marks, whatever made it. Assumes nothing.
use Rattle.std.specs.Prelude.{ℕ, zero, suc, ◌+◌, ◌*◌, ◌%◌, ◌^◌, ◌<◌, ◌≤◌, ◌≡◌, ◌≢◌, cond, List, [], ◌∷◌, map, ltb, eqb, length, get_or, ℤ, pos, negsuc, ◌+ℤ◌, nat_abs, None, Some, slice_get}
use Rattle.rules.specs.Limits.{last_address, distance_limit}
use Rattle.rules.specs.Number.{modulo}
use Rattle.rules.specs.Answer.{Answer, accepted, refuse_if, refuse_at}
use Rattle.rules.specs.Text.{Text}
use Rattle.rules.specs.Assemble.{Sizes, Encoder, Place, Slices, short, assemble_by}
use Rattle.rules.specs.Relocate.{far, outside, moved_address, first_index, first_bad_mark, move_words, move_answer, move_slices}
use Rattle.rules.specs.Tally.{held, moves, tallied, tally, tally_list}
use Rattle.promises.specs.Refusals.{BadMark, Congruent}
use Rattle.promises.specs.Lawful.{Lawful}
use Rattle.promises.specs.MovedLists.{Call, last_total, last_list}

-- ---- the stations' lists move as before there were pairs

-- the mover as it was before there were pairs: a place, the words, and the answer with "10 a mark not 0 or 1"
unfoldable pub place_before : ℤ → Place → Place
place_before d p =
    record {
      address = moved_address d p.address;
      word = cond (eqb p.mark 1) ((p.word + modulo 65536 d) % 65536) p.word;
      mark = p.mark;
    }

unfoldable pub words_before : ℤ → ℕ → List ℕ → List ℕ → List ℕ
words_before d zero ms ws = ws
words_before d (suc n) [] ws = ws
words_before d (suc n) (m ∷ ms) [] = []
words_before d (suc n) (m ∷ ms) (w ∷ ws) = cond (eqb m 1) ((w + modulo 65536 d) % 65536) w ∷ words_before d n ms ws

unfoldable pub answer_before : Slices → ℕ → ℤ → Answer ℕ
answer_before x n d =
    refuse_if (far d) 8 0
    (refuse_if (short x n) 9 n
    (refuse_at (first_index (λ m. ltb 1 m) 0 n x.marks) 10
    (refuse_at (first_index (λ a. outside (pos a +ℤ d)) 0 n x.addresses) 11 (accepted n))))

-- each place of a list
abbrev pub Each : (Place → Type 0) → List Place → Type 0
Each P l = (i : ℕ) (p : Place) → slice_get l i ≡ Some p → P p

-- where the first n marks are 0 and 1 the mover gives its old answer and words, in any slices, and the tally its old list
pub record MovesAsBefore : Type 0 where
  pub answer : (x : Slices) (n : ℕ) → ((i : ℕ) → i < n → get_or x.marks i 0 ≤ 1) → (d : ℤ) → move_answer x n d ≡ answer_before x n d
  pub words : (x : Slices) (n : ℕ) → ((i : ℕ) → i < n → get_or x.marks i 0 ≤ 1) → (d : ℤ)
      → move_words d n x.marks x.words ≡ words_before d n x.marks x.words
  pub list : (l : List Place) → Each (λ p. p.mark ≤ 1) l → (d : ℤ) → tally_list d l ≡ map (place_before d) l

-- ---- lists with pairs

-- no mark is over 3, each 2 is followed by a 3 and each 3 preceded by a 2
unfoldable pub WellPaired : List Place → Type 0
WellPaired l = (i : ℕ) → i < length l → ¬ BadMark (map (λ p. p.mark) l) (length l) i

-- what is marked has 16 bits; an address is not above 2^30 + 1
abbrev pub Sixteen : Place → Type 0
Sixteen p = p.mark ≢ 0 → p.word < 65536

abbrev pub Low : Place → Type 0
Low p = p.address ≤ last_address

-- each answer, and the list after each of the moves, is the tally's
unfoldable pub PairsFollowTally : Type 0
PairsFollowTally =
    (l : List Place) → WellPaired l → Each Sixteen l → (x : Slices) → held (length l) x ≡ l
    → (ds : List ℤ) → moves (length l) x ds ≡ tally l (pos 0) ds

-- "moves made one after another add the accepted ones' total to each such pair modulo 2^32": p and q are the pair at i, p' and q' what the
-- tally has there at a total
unfoldable pub PairsAddTotal : Type 0
PairsAddTotal =
    (l : List Place) → WellPaired l → (total : ℤ) (i : ℕ) (p q p' q' : Place) → slice_get l i ≡ Some p → slice_get l (suc i) ≡ Some q → p.mark ≡ 2
    → slice_get (tally_list total l) i ≡ Some p' → slice_get (tally_list total l) (suc i) ≡ Some q'
    → (p'.word < 65536) × (q'.word < 65536)
    × Congruent (2 ^ 32) (pos (65536 * p'.word + q'.word)) (pos (65536 * p.word + q.word) +ℤ total)

-- one move by the tally's last total, if it is within ±(2^30 − 1), gives the tally's last list
unfoldable pub OneMoveForPairs : Type 0
OneMoveForPairs =
    (l : List Place) → WellPaired l → Each Sixteen l → Each Low l → (x : Slices) → held (length l) x ≡ l
    → (ds : List ℤ) → nat_abs (last_total (pos 0) (tallied l (pos 0) ds)) < distance_limit
    → (move_answer x (length l) (last_total (pos 0) (tallied l (pos 0) ds)) ≡ accepted (length l))
    × (held (length l) (move_slices x (length l) (last_total (pos 0) (tallied l (pos 0) ds))) ≡ last_list l (tallied l (pos 0) ds))

-- the lists of a call are such lists
abbrev pub ListsArePairedFor : Call → Type 0
ListsArePairedFor call = (s : Text) (b : ℕ) (l : List Place) → call b s ≡ accepted l → WellPaired l × Each Sixteen l × Each Low l

-- those of every lawful pair are
unfoldable pub LawfulListsArePaired : Type 0
LawfulListsArePaired = (z : Sizes) (e : Encoder) (most : ℕ) → Lawful z e most → ListsArePairedFor (assemble_by z e)

-- the readings by example: a broken pair's place is the 2 without a 3 or the 3 without a 2, and pairs lie within the count
pub record MarkExamples : Type 0 where
  pub twice_high : first_bad_mark 0 0 3 (2 ∷ 2 ∷ 3 ∷ []) ≡ Some 0
  pub twice_low : first_bad_mark 0 0 3 (2 ∷ 3 ∷ 3 ∷ []) ≡ Some 2
  pub over : first_bad_mark 0 0 2 (2 ∷ 4 ∷ []) ≡ Some 0
  pub past_the_count : first_bad_mark 0 0 1 (2 ∷ 3 ∷ []) ≡ Some 0
  pub good : first_bad_mark 0 0 5 (1 ∷ 2 ∷ 3 ∷ 0 ∷ 1 ∷ []) ≡ None

abbrev pair : ℕ → ℕ → List Place
pair high low = record { address = 10; word = high; mark = 2 } ∷ record { address = 12; word = low; mark = 3 } ∷ []

-- 1 more carries, 1 less borrows, and the number wraps at 2^32
pub record PairExamples : Type 0 where
  pub carries : map (λ p. p.word) (tally_list (pos 1) (pair 4 65535)) ≡ 5 ∷ 0 ∷ []
  pub borrows : map (λ p. p.word) (tally_list (negsuc 0) (pair 5 0)) ≡ 4 ∷ 65535 ∷ []
  pub wraps : map (λ p. p.word) (tally_list (pos 1) (pair 65535 65535)) ≡ 0 ∷ 0 ∷ []
