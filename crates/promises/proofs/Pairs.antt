-- The mover: lists with marks 0 and 1 move as before, and lists with pairs follow the tally. Assumes nothing.
use Rattle.std.specs.Prelude.{None, Some, slice_get}
use Rattle.std.proofs.lemmas.Option.{same_Some, none-some}
use Prim.Native.Nat.{ℕ, zero, suc, ◌≤◌, ◌<◌}
use mathlib.Core.Path.{◌≡◌, refl, ◌∙◌, sym, ap}
use mathlib.Core.Bool.{false, cond}
use mathlib.Core.List.{List, [], ◌∷◌, map}
use native.Mathlib.Omega.{arith}
use borrow.Author.Tests.{le-ltb, lt-leb}
use lib.Dec.{ltb, eqb}
use lib.ListN.{length, get_or, length-map}
use lib.IntN.{ℤ, pos, nat_abs}
use Rattle.rules.specs.Limits.{distance_limit}
use Rattle.rules.specs.Number.{modulo}
use Rattle.rules.specs.Assemble.{Place, Slices}
use Rattle.rules.specs.Relocate.{far, first_in, first_index, bad_mark, first_bad_mark, moved_address, added_word, added_pair, added_high, moved_word, move_words, move_answer}
use Rattle.rules.specs.Tally.{first_word, moved_place, tally_list, tallied}
use Rattle.promises.specs.Refusals.{BadMark}
use Rattle.promises.specs.MovedLists.{last_total}
use Rattle.promises.specs.Pairs.{place_before, words_before, answer_before, Each, MovesAsBefore, Sixteen, Low, PairsFollowTally, WellPaired, PairsAddTotal, OneMoveForPairs, LawfulListsArePaired, MarkExamples, PairExamples}
use Rattle.promises.proofs.Lists.{All, all_at}
use Rattle.promises.proofs.RefusalsSearch.{none_found}
use Rattle.promises.proofs.RefusalsMarks.{marks_found}
use Rattle.promises.proofs.Fit.{Fit, listed}
use Rattle.promises.proofs.Residues.{pair_added, low_lt, high_lt}
use Rattle.promises.proofs.RefusalsWritten.{pair_congruent}
use Rattle.promises.proofs.Twice.{first_mark, Paired, inside_none}
use Rattle.promises.proofs.Paired.{NoBadMark, no_bad_mark, all_paired, plain_mark, grouped_good}
use Rattle.promises.proofs.Moves.{follow_from_zero, last_total_inside, last_list_is, move_accepted, move_gives}

-- a property of each place, by index and along the list
all_of : (P : Place → Type 0) (l : List Place) → Each P l → All P l
all_of P [] h = tt
all_of P (p ∷ ps) h = (h 0 p refl, all_of P ps (λ i. h (suc i)))

-- ---- marks 0 and 1, as before
word_before : (d : ℤ) (m w v : ℕ) → m ≤ 1 → moved_word d m w v ≡ cond (eqb m 1) (added_word d w) w
unfolding moved_word
word_before d zero w v h = refl
word_before d (suc zero) w v h = refl
word_before d (suc (suc m)) w v h = absurd (omega arith)

list_before : (d : ℤ) (l : List Place) → All (λ p. p.mark ≤ 1) l → tally_list d l ≡ map (place_before d) l
unfolding tally_list moved_place place_before added_word
list_before d [] h = refl
list_before d (p ∷ ps) h = rw (word_before d p.mark p.word (first_word ps) h.0, list_before d ps h.1)

words_before_lem : (d : ℤ) (n : ℕ) (ms ws : List ℕ) → ((j : ℕ) → j < n → get_or ms j 0 ≤ 1) → move_words d n ms ws ≡ words_before d n ms ws
unfolding move_words words_before added_word
words_before_lem d zero ms ws h = refl
words_before_lem d (suc n) [] ws h = refl
words_before_lem d (suc n) (m ∷ ms) [] h = refl
words_before_lem d (suc n) (m ∷ ms) (w ∷ ws) h =
    rw (word_before d m w (first_in n ws) (h 0 (omega arith)), words_before_lem d n ms ws (λ j l. h (suc j) (omega arith)))

-- neither scan finds a mark
old_none : (i n : ℕ) (ms : List ℕ) → ((j : ℕ) → j < n → get_or ms j 0 ≤ 1) → first_index (λ m. ltb 1 m) i n ms ≡ None
unfolding first_index
old_none i zero ms h = refl
old_none i (suc n) [] h = refl
old_none i (suc n) (m ∷ ms) h = rw (le-ltb 1 m (h 0 (omega arith)), first_index) (old_none (suc i) n ms (λ j l. h (suc j) (omega arith)))

new_none : (b i n : ℕ) (ms : List ℕ) → ((j : ℕ) → j < n → get_or ms j 0 ≤ 1) → first_bad_mark b i n ms ≡ None
unfolding first_bad_mark
new_none b i zero ms h = refl
new_none b i (suc n) [] h = refl
new_none b i (suc n) (m ∷ ms) h =
    rw (plain_mark b m (first_in n ms) (h 0 (omega arith)), first_bad_mark) (new_none m (suc i) n ms (λ j l. h (suc j) (omega arith)))

answer_before_lem : (x : Slices) (n : ℕ) → ((i : ℕ) → i < n → get_or x.marks i 0 ≤ 1) → (d : ℤ) → move_answer x n d ≡ answer_before x n d
unfolding move_answer answer_before
answer_before_lem x n h d = rw (new_none 0 0 n x.marks h, old_none 0 n x.marks h)

pub moves_as_before : MovesAsBefore
moves_as_before =
    record {
      answer = answer_before_lem;
      words = λ x n h d. words_before_lem d n x.marks x.words h;
      list = λ l h d. list_before d l (all_of (λ p. p.mark ≤ 1) l h);
    }

-- ---- lists with pairs
pub pairs_follow_tally : PairsFollowTally
unfolding PairsFollowTally
pairs_follow_tally l well six x h ds = follow_from_zero l (no_bad_mark l well) (all_of Sixteen l six) x h ds

pub one_move_for_pairs : OneMoveForPairs
unfolding OneMoveForPairs far
one_move_for_pairs l well six low x h ds ok =
    let good = no_bad_mark l well in
    let s = all_of Sixteen l six in
    let total : ℤ = last_total (pos 0) (tallied l (pos 0) ds) in
    let near : far total ≡ false = lt-leb distance_limit (nat_abs total) ok in
    let ins = inside_none total 0 l (last_total_inside l good s (all_of Low l low) ds) in
    (move_accepted l good s x h total near ins, move_gives l good s x h total near ins ∙ sym (last_list_is l good s ds))

-- the words of the pair at an index of a moved list
pair_at : (d : ℤ) (l : List Place) → Paired l → (i : ℕ) (p q p' q' : Place) → slice_get l i ≡ Some p → slice_get l (suc i) ≡ Some q → p.mark ≡ 2
    → slice_get (tally_list d l) i ≡ Some p' → slice_get (tally_list d l) (suc i) ≡ Some q'
    → (p'.word ≡ added_high d p.word q.word) × (q'.word ≡ added_word d q.word)
unfolding tally_list first_word first_mark moved_place moved_word
pair_at d [] k i p q p' q' hp hq m hp' hq' = absurd (none-some p hp)
pair_at d (r ∷ []) k zero p q p' q' hp hq m hp' hq' = absurd (none-some q hq)
pair_at d (r ∷ s ∷ l) k zero p q p' q' hp hq m hp' hq' =
    let a = same_Some r p hp in
    let e : r.mark ≡ 2 = ap (λ o. o.mark) a ∙ m in
    let f : s.mark ≡ 3 = k.0 e in
    rw (← same_Some (moved_place d r s.word) p' hp', ← same_Some (moved_place d s (first_word l)) q' hq', ← a, ← same_Some s q hq, e, f)
    (refl, refl)
pair_at d (r ∷ l) k (suc i) p q p' q' hp hq m hp' hq' = pair_at d l k.1 i p q p' q' hp hq m hp' hq'

pub pairs_add_total : PairsAddTotal
unfolding PairsAddTotal
pairs_add_total l well d i p q p' q' hp hq m hp' hq' =
    let w = pair_at d l (all_paired l (no_bad_mark l well)) i p q p' q' hp hq m hp' hq' in
    rw (w.0, w.1, pair_added d p.word q.word) (high_lt d p.word q.word, low_lt d q.word, pair_congruent d p.word q.word)

-- ---- lists of lawful pairs
well_paired : (l : List Place) → NoBadMark l → WellPaired l
unfolding WellPaired
well_paired l e =
    none_found (BadMark (map (λ p. p.mark) l) (length l)) (length l)
    (rw e at (marks_found (map (λ p. p.mark) l) (length l) (rw (length-map l (λ p. p.mark)) (omega arith))))

pub lawful_lists_are_paired : LawfulListsArePaired
unfolding LawfulListsArePaired
lawful_lists_are_paired z e most law s b l h =
    let k = listed law b s l h in (
      well_paired l (grouped_good k.grouped),
      λ i p f. (all_at Fit l i p k.fit f).reduced,
      λ i p f. (all_at Fit l i p k.fit f).bound,
    )

pub mark_examples : MarkExamples
unfolding first_bad_mark bad_mark first_in
mark_examples = record { twice_high = refl; twice_low = refl; over = refl; past_the_count = refl; good = refl }

pub pair_examples : PairExamples
unfolding tally_list moved_place moved_address moved_word added_word added_high added_pair modulo first_word
pair_examples = record { carries = refl; borrows = refl; wraps = refl }
