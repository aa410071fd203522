-- Moving is assembling, sentence by sentence, over an assembling call: the stations', and that of whatever size z and encoder e are lawful. Assumes nothing.
use Rattle.std.specs.Prelude.{ℕ, ◌<◌, ◌≡◌, ◌≢◌, ◌↔◌, List, [], ◌∷◌, map, length, ℤ, pos, ◌+ℤ◌, ◌-ℤ◌, nat_abs, Some, slice_get}
use Rattle.rules.specs.Limits.{distance_limit}
use Rattle.rules.specs.Text.{Text}
use Rattle.rules.specs.Number.{modulo}
use Rattle.rules.specs.Answer.{Answer, accepted, refused}
use Rattle.rules.specs.Line.{size}
use Rattle.rules.specs.Encode.{encode}
use Rattle.rules.specs.Assemble.{Pass, Sizes, Encoder, Place, Slices, encoded, pass_at_by, assemble_by, assemble}
use Rattle.rules.specs.Relocate.{move_answer, move_slices}
use Rattle.rules.specs.Tally.{held, Seen, moves, tally_list, Tallied, tallied, seen}
use Rattle.promises.specs.Lawful.{shift_pass, Lawful, ShortAddresses}

-- an assembling call: the list of a source at a base, or a refusal
abbrev pub Call : Type 0
Call = ℕ → Text → Answer (List Place)

-- "Let one source be accepted at base b and at base c. Then moving its list for b by c − b is accepted and gives
-- exactly its list for c: the same count, addresses, words and marks."
abbrev pub MovedIsAssembledFor : Call → Type 0
MovedIsAssembledFor call =
    (s : Text) (b c : ℕ) (lb lc : List Place) → call b s ≡ accepted lb → call c s ≡ accepted lc
    → (x : Slices) → held (length lb) x ≡ lb
    → (length lb ≡ length lc)
    × (move_answer x (length lb) (pos c -ℤ pos b) ≡ accepted (length lc))
    × (held (length lc) (move_slices x (length lb) (pos c -ℤ pos b)) ≡ lc)

-- "If c − b is not a multiple of 65,536, a word differs between the two exactly when its mark is 1."
-- p and q are the places at index i of the two lists; their marks agree, so "its mark" is either's.
abbrev pub WordsDifferFor : Call → Type 0
WordsDifferFor call =
    (s : Text) (b c : ℕ) (lb lc : List Place) → call b s ≡ accepted lb → call c s ≡ accepted lc
    → modulo 65536 (pos c -ℤ pos b) ≢ 0
    → (i : ℕ) (p q : Place) → slice_get lb i ≡ Some p → slice_get lc i ≡ Some q
    → (p.mark ≡ q.mark) × ((p.word ≢ q.word) ↔ (p.mark ≡ 1))

-- "words differ only at marked places"; with mark 1, and in a pair's low word, exactly when d is not a multiple of 65,536
pub record Differ (d : ℤ) (p q : Place) : Type 0 where
  pub marks : p.mark ≡ q.mark
  pub unmarked : p.mark ≡ 0 → p.word ≡ q.word
  pub low : p.mark ≢ 0 → p.mark ≢ 2 → (p.word ≢ q.word) ↔ (modulo 65536 d ≢ 0)

abbrev pub MarkedWordsDifferFor : Call → Type 0
MarkedWordsDifferFor call =
    (s : Text) (b c : ℕ) (lb lc : List Place) → call b s ≡ accepted lb → call c s ≡ accepted lc
    → (i : ℕ) (p q : Place) → slice_get lb i ≡ Some p → slice_get lc i ≡ Some q → Differ (pos c -ℤ pos b) p q

-- a mark says which words move, at one base too: of a call by the sizes z, with labels and lines d higher its second pass gives the list that
-- the tally has at d
abbrev pub MarksSayWhatMovesFor : Sizes → (Pass → Answer (List Place)) → Call → Type 0
MarksSayWhatMovesFor z second call =
    (s : Text) (b : ℕ) (p : Pass) (l : List Place) → pass_at_by z b s ≡ accepted p → call b s ≡ accepted l
    → (d : ℕ) → second (shift_pass d p) ≡ accepted (tally_list (pos d) l)

-- "Each move is a call with these slices, that count and any signed 32-bit distance. It gets the slices as the call before left them,
-- refused or not": what is seen of moves made so, each answer and the list after it
pub data Made (n : ℕ) : Slices → List ℤ → List Seen → Type 0 where
  no_move : {x : Slices} → Made n x [] []
  one_move : {x : Slices} {d : ℤ} {ds : List ℤ} {s : Seen} {ss : List Seen} → s.answer ≡ move_answer x n d → s.list ≡ held n (move_slices x n d)
      → Made n (move_slices x n d) ds ss → Made n x (d ∷ ds) (s ∷ ss)

unfoldable pub MovesAreMade : Type 0
MovesAreMade = (n : ℕ) (x : Slices) (ds : List ℤ) → Made n x ds (moves n x ds)

-- "And for every list of distances, let its moves be made one after another from the list for b, refused ones included.
-- Then each answer, and the list after each move, is that of" the "tally."
abbrev pub MovesFollowTallyFor : Call → Type 0
MovesFollowTallyFor call =
    (s : Text) (b : ℕ) (l : List Place) → call b s ≡ accepted l
    → (x : Slices) → held (length l) x ≡ l
    → (ds : List ℤ) → moves (length l) x ds ≡ map seen (tallied l (pos 0) ds)

-- the total and the list that the tally holds last, from those that it holds at first
unfoldable pub last_total : ℤ → List Tallied → ℤ
last_total total [] = total
last_total total (t ∷ ts) = last_total t.total ts

unfoldable pub last_list : List Place → List Tallied → List Place
last_list l [] = l
last_list l (t ∷ ts) = last_list t.list ts

-- "If the tally's last total is within ±(2^30 − 1), one move by it from the list for b is accepted and gives the tally's last list."
abbrev pub OneMoveForAllFor : Call → Type 0
OneMoveForAllFor call =
    (s : Text) (b : ℕ) (l : List Place) → call b s ≡ accepted l
    → (x : Slices) → held (length l) x ≡ l
    → (ds : List ℤ) → nat_abs (last_total (pos 0) (tallied l (pos 0) ds)) < distance_limit
    → (move_answer x (length l) (last_total (pos 0) (tallied l (pos 0) ds)) ≡ accepted (length l))
    × (held (length l) (move_slices x (length l) (last_total (pos 0) (tallied l (pos 0) ds))) ≡ last_list l (tallied l (pos 0) ds))

-- the totals held one after another, from a first one: "A refused distance leaves the total alone; any other is accepted and added to it."
pub data Totalled : ℤ → List ℤ → List Tallied → Type 0 where
  no_more : {total : ℤ} → Totalled total [] []
  left_alone : {total d : ℤ} {ds : List ℤ} {t : Tallied} {ts : List Tallied} (n p : ℕ) → t.answer ≡ refused n p → t.total ≡ total
      → Totalled t.total ds ts → Totalled total (d ∷ ds) (t ∷ ts)
  added : {total d : ℤ} {ds : List ℤ} {t : Tallied} {ts : List Tallied} (n : ℕ) → t.answer ≡ accepted n → t.total ≡ total +ℤ d
      → Totalled t.total ds ts → Totalled total (d ∷ ds) (t ∷ ts)

-- "It holds a total, at first 0.", and what is said of it there holds of each of the tally's totals, by its answers
unfoldable pub TotalsAddUp : Type 0
TotalsAddUp = (l : List Place) (ds : List ℤ) → Totalled (pos 0) ds (tallied l (pos 0) ds)

-- all of it for a call by the sizes z with that second pass
pub record MovesAsAssembledFor (z : Sizes) (second : Pass → Answer (List Place)) (call : Call) : Type 0 where
  pub moved : MovedIsAssembledFor call
  pub differ : MarkedWordsDifferFor call
  pub marks : MarksSayWhatMovesFor z second call
  pub follow : MovesFollowTallyFor call
  pub one : OneMoveForAllFor call

-- every lawful pair has it
unfoldable pub LawfulMoves : Type 0
LawfulMoves = (z : Sizes) (e : Encoder) (most : ℕ) → Lawful z e most → MovesAsAssembledFor z (encoded e) (assemble_by z e)

-- and where no label's address has 32 bits, the sentence on words that differ by mark 1 holds
unfoldable pub ShortWordsDiffer : Type 0
ShortWordsDiffer = (z : Sizes) (e : Encoder) (most : ℕ) → Lawful z e most → ShortAddresses e → WordsDifferFor (assemble_by z e)

-- so the stations' call has all of it
unfoldable pub MovedIsAssembled : Type 0
MovedIsAssembled = MovedIsAssembledFor assemble

unfoldable pub WordsDiffer : Type 0
WordsDiffer = WordsDifferFor assemble

unfoldable pub MarksSayWhatMoves : Type 0
MarksSayWhatMoves = MarksSayWhatMovesFor size (encoded encode) assemble

unfoldable pub MovesFollowTally : Type 0
MovesFollowTally = MovesFollowTallyFor assemble

unfoldable pub OneMoveForAll : Type 0
OneMoveForAll = OneMoveForAllFor assemble
