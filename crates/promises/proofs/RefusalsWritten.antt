-- What an accepted move writes at a place, in plain integers. Assumes nothing.
use Rattle.std.specs.Prelude.{None, Some}
use Prim.Native.Nat.{ℕ, zero, suc, ◌+◌, ◌-◌, ◌*◌, ◌/◌, ◌%◌, ◌^◌, ◌≤◌, ◌<◌}
use mathlib.Core.Path.{◌≡◌, refl, sym, ap, ◌∙◌}
use mathlib.Core.Logic.{◌≢◌}
use mathlib.Core.Bool.{Bool, true, false, cond}
use mathlib.Core.List.{List, [], ◌∷◌}
use native.Mathlib.Omega.{arith}
use borrow.Author.Tests.{ltb-true, ltb-false, le-ltb, eqb-true, eqb-false, ne_eqb}
use lib.Dec.{ltb, eqb}
use lib.ListN.{length, get_or}
use lib.IntN.{ℤ, pos, negsuc, ◌+ℤ◌, nat_abs, sub_ℕ}
use Rattle.rules.specs.Number.{modulo}
use Rattle.rules.specs.Assemble.{Slices, slices}
use Rattle.rules.specs.Relocate.{outside, moved_address, added_word, added_pair, added_high, moved_word, first_in, first_index, first_bad_mark, move_addresses, move_words}
use Rattle.promises.specs.Refusals.{BadMark, high_alone, Congruent, pair_at, MovedAt}
use Rattle.promises.proofs.Compared.{clash}
use Rattle.promises.proofs.RefusalsSearch.{none_found}
use Rattle.promises.proofs.RefusalsMarks.{marks_found}
use Rattle.promises.proofs.Residues.{pair_added, low_lt, high_lt}

-- of the first n numbers none passes the test
none_passes : (f : ℕ → Bool) (i n : ℕ) (xs : List ℕ) → first_index f i n xs ≡ None → n ≤ length xs → (k : ℕ) → k < n → f (get_or xs k 0) ≡ false
unfolding first_index
none_passes f i zero xs e h k l = absurd (omega arith)
none_passes f i (suc n) [] e h k l = absurd (omega arith)
none_passes f i (suc n) (x ∷ xs) e h k l = go (f x) refl k l (none_passes f (suc i) n xs)
  where
    go : (y : Bool) → f x ≡ y → (k : ℕ) → k < suc n
        → (first_index f (suc i) n xs ≡ None → n ≤ length xs → (j : ℕ) → j < n → f (get_or xs j 0) ≡ false) → f (get_or (x ∷ xs) k 0) ≡ false
    go true g k l ih = let u : Some i ≡ None = rw (g, first_index) at e in clash cc
    go false g zero l ih = g
    go false g (suc j) l ih = ih (rw (g, first_index) at e) (omega arith) j (omega arith)

-- a difference, and what is added to it
sub_add : (w m y : ℕ) → m ≤ w + y → sub_ℕ w m +ℤ pos y ≡ pos (w + y - m)
sub_add w m y h = go (ltb w m) refl
  where
    on : (k : ℕ) → k < y → sub_ℕ y (suc k) ≡ pos (y - suc k)
    on k l = rw (le-ltb y (suc k) l)

    go : (b : Bool) → ltb w m ≡ b → cond b (negsuc (m - suc w)) (pos (w - m)) +ℤ pos y ≡ pos (w + y - m)
    go true e = let k = ltb-true w m e in on (m - suc w) (omega arith) ∙ ap pos (omega arith)
    go false e = let k = ltb-false w m e in ap pos (omega arith)

-- the moved pair and the sum, and so the moved word
pub pair_congruent : (d : ℤ) (h l : ℕ) → Congruent (2 ^ 32) (pos (added_pair d h l)) (pos (65536 * h + l) +ℤ d)
unfolding added_pair modulo
pair_congruent (pos n) h l = record { up = (65536 * h + l + n) / 2 ^ 32; down = 0; meet = ap pos (omega arith) }
pair_congruent (negsuc n) h l =
    record {
      up = (65536 * h + l + (2 ^ 32 - suc (n % 2 ^ 32))) / 2 ^ 32;
      down = n / 2 ^ 32 + 1;
      meet = ap pos (omega arith) ∙ sym (sub_add (65536 * h + l) (suc n) (2 ^ 32 * (n / 2 ^ 32 + 1)) (omega arith));
    }

word_congruent : (d : ℤ) (w : ℕ) → Congruent 65536 (pos (added_word d w)) (pos w +ℤ d)
word_congruent d w =
    let c = pair_congruent d 0 w in
    let p = pair_added d 0 w in
    let low : 65536 * 0 + w ≡ w = omega arith in
    let times : 2 ^ 32 * c.down ≡ 65536 * (65536 * c.down) = omega arith in
    record { up = added_high d 0 w + 65536 * c.up; down = 65536 * c.down; meet = ap pos (omega arith) ∙ c.meet ∙ rw (low, times) }

-- what stands at a place after the move
address_at : (d : ℤ) (n : ℕ) (xs : List ℕ) → n ≤ length xs → (i : ℕ) → i < n → get_or (move_addresses d n xs) i 0 ≡ moved_address d (get_or xs i 0)
unfolding move_addresses
address_at d zero xs h i k = absurd (omega arith)
address_at d (suc n) [] h i k = absurd (omega arith)
address_at d (suc n) (x ∷ xs) h zero k = refl
address_at d (suc n) (x ∷ xs) h (suc i) k = address_at d n xs (omega arith) i (omega arith)

-- a word, by its mark and by the next one of the n, if there is one
word_at : (d : ℤ) (n : ℕ) (ms ws : List ℕ) → n ≤ length ms → n ≤ length ws → (i : ℕ) → i < n
    → (v : ℕ) × (get_or (move_words d n ms ws) i 0 ≡ moved_word d (get_or ms i 0) (get_or ws i 0) v) × (suc i < n → v ≡ get_or ws (suc i) 0)
unfolding move_words first_in
word_at d zero ms ws h g i k = absurd (omega arith)
word_at d (suc n) [] ws h g i k = absurd (omega arith)
word_at d (suc n) (m ∷ ms) [] h g i k = absurd (omega arith)
word_at d (suc zero) (m ∷ ms) (w ∷ ws) h g zero k = (0, refl, λ l. absurd (omega arith))
word_at d (suc (suc n)) (m ∷ ms) (w ∷ []) h g zero k = absurd (omega arith)
word_at d (suc (suc n)) (m ∷ ms) (w ∷ v ∷ ws) h g zero k = (v, refl, λ l. refl)
word_at d (suc n) (m ∷ ms) (w ∷ ws) h g (suc i) k =
    let r = word_at d n ms ws (omega arith) (omega arith) i (omega arith) in
    (r.0, r.1, λ l. r.2 (omega arith))

-- a 2 among marks of which none is bad has a 3 next to it
paired_at : (n : ℕ) (ms : List ℕ) → first_bad_mark 0 0 n ms ≡ None → n ≤ length ms → (i : ℕ) → i < n → get_or ms i 0 ≡ 2 → (suc i < n) × (get_or ms (suc i) 0 ≡ 3)
paired_at n ms e h i k m = go (ltb (suc i) n) refl (eqb (get_or ms (suc i) 0) 3) refl
  where
    alone : ¬ BadMark ms n i
    alone = none_found (BadMark ms n) n (rw e at (marks_found ms n h)) i k

    go : (y : Bool) → ltb (suc i) n ≡ y → (x : Bool) → eqb (get_or ms (suc i) 0) 3 ≡ x → (suc i < n) × (get_or ms (suc i) 0 ≡ 3)
    go true f true g = (ltb-true (suc i) n f, eqb-true (get_or ms (suc i) 0) 3 g)
    go true f false g = absurd (alone (high_alone m (λ l. eqb-false (get_or ms (suc i) 0) 3 g)))
    go false f x g = absurd (alone (high_alone m (λ l. let z = ltb-false (suc i) n f in absurd (omega arith))))

-- as many as before
pub addresses_long : (d : ℤ) (n : ℕ) (xs : List ℕ) → length (move_addresses d n xs) ≡ length xs
unfolding move_addresses
addresses_long d zero xs = refl
addresses_long d (suc n) [] = refl
addresses_long d (suc n) (x ∷ xs) = ap suc (addresses_long d n xs)

pub words_long : (d : ℤ) (n : ℕ) (ms ws : List ℕ) → length (move_words d n ms ws) ≡ length ws
unfolding move_words
words_long d zero ms ws = refl
words_long d (suc n) [] ws = refl
words_long d (suc n) (m ∷ ms) [] = refl
words_long d (suc n) (m ∷ ms) (w ∷ ws) = ap suc (words_long d n ms ws)

-- an address that is not outside is the sum
inside_sum : (z : ℤ) → outside z ≡ false → pos (nat_abs z) ≡ z
unfolding outside
inside_sum (pos n) e = refl
inside_sum (negsuc n) e = clash cc

-- a word's move by its mark
module _ (d : ℤ) (m w v : ℕ) where
  unmarked : m ≡ 0 → moved_word d m w v ≡ w
  unfolding moved_word
  unmarked e = rw e

  marked_lt : m ≢ 0 → moved_word d m w v < 65536
  unfolding moved_word
  marked_lt h = rw (ne_eqb m 0 h) (go (eqb m 2))
    where
      go : (y : Bool) → cond y (added_high d w v) (added_word d w) < 65536
      go true = high_lt d w v
      go false = low_lt d w

module _ (d : ℤ) (n : ℕ) (x : Slices) (la : n ≤ length x.addresses) (lw : n ≤ length x.words) (lm : n ≤ length x.marks)
    (good : first_bad_mark 0 0 n x.marks ≡ None) (e : first_index (λ a. outside (pos a +ℤ d)) 0 n x.addresses ≡ None) where
  abbrev after : List ℕ
  after = move_words d n x.marks x.words

  -- the pair at i, as one number
  pair_moved : (i : ℕ) → i < n → get_or x.marks i 0 ≡ 2 → pair_at after i ≡ added_pair d (get_or x.words i 0) (get_or x.words (suc i) 0)
  unfolding moved_word
  pair_moved i h m =
      let next = paired_at n x.marks good lm i h m in
      let high = word_at d n x.marks x.words lm lw i h in
      let low = word_at d n x.marks x.words lm lw (suc i) next.0 in
      rw (high.1, low.1, high.2 next.0, m, next.1) (pair_added d (get_or x.words i 0) (get_or x.words (suc i) 0))

  pub moved_at : (i : ℕ) → i < n → MovedAt d x (slices (move_addresses d n x.addresses) after x.marks) i
  unfolding moved_address moved_word
  moved_at i h =
      let r = word_at d n x.marks x.words lm lw i h in
      record {
        address =
            rw (address_at d n x.addresses la i h)
            (inside_sum (pos (get_or x.addresses i 0) +ℤ d) (none_passes (λ a. outside (pos a +ℤ d)) 0 n x.addresses e la i h));
        stays = λ m. rw r.1 (unmarked d (get_or x.marks i 0) (get_or x.words i 0) r.0 m);
        reduced = λ m. rw r.1 (marked_lt d (get_or x.marks i 0) (get_or x.words i 0) r.0 m);
        congruent = λ m. rw (r.1, m) (word_congruent d (get_or x.words i 0));
        pair = λ m. rw (pair_moved i h m) (pair_congruent d (get_or x.words i 0) (get_or x.words (suc i) 0));
      }
