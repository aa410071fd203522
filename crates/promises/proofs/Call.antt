-- A call of the mover on slices whose first n places hold a list: what it reads and writes is the list's. Assumes nothing.
use Rattle.std.specs.Prelude.{None, Some}
use Prim.Native.Nat.{ℕ, zero, suc, ◌≤◌}
use mathlib.Core.Path.{◌≡◌, refl}
use mathlib.Core.Bool.{true, false}
use mathlib.Core.List.{List, [], ◌∷◌, map}
use native.Mathlib.Omega.{arith}
use borrow.Author.Tests.{le-ltb}
use lib.ListN.{length}
use lib.IntN.{ℤ, pos, ◌+ℤ◌}
use Rattle.rules.specs.Answer.{accepted, refuse_if, refuse_at}
use Rattle.rules.specs.Assemble.{Slices, short}
use Rattle.rules.specs.Relocate.{far, outside, first_in, first_index, bad_mark, first_bad_mark, move_addresses, move_words, move_answer, move_by}
use Rattle.rules.specs.Tally.{list_in, held, first_outside, first_word, moved_place, tally_list}

-- refusal 11: the first moved address outside
same_outside : (d : ℤ) (i n : ℕ) (xs ws ms : List ℕ) → length (list_in n xs ws ms) ≡ n → first_index (λ a. outside (pos a +ℤ d)) i n xs ≡ first_outside d i (list_in n xs ws ms)
unfolding list_in first_index first_outside
same_outside d i zero xs ws ms e = refl
same_outside d i (suc n) [] ws ms e = absurd (omega arith)
same_outside d i (suc n) (a ∷ xs) [] ms e = absurd (omega arith)
same_outside d i (suc n) (a ∷ xs) (w ∷ ws) [] e = absurd (omega arith)
same_outside d i (suc n) (a ∷ xs) (w ∷ ws) (m ∷ ms) e =
    λ k. elim (outside (pos a +ℤ d)) [ true ↦ Some i | false ↦ same_outside d (suc i) n xs ws ms (omega arith) k ]

-- refusal 10: the next mark, and the scan, are the list's
same_first : (n : ℕ) (xs ws ms : List ℕ) → length (list_in n xs ws ms) ≡ n → first_in n ms ≡ first_in n (map (λ p. p.mark) (list_in n xs ws ms))
unfolding list_in first_in
same_first zero xs ws ms e = refl
same_first (suc n) [] ws ms e = absurd (omega arith)
same_first (suc n) (a ∷ xs) [] ms e = absurd (omega arith)
same_first (suc n) (a ∷ xs) (w ∷ ws) [] e = absurd (omega arith)
same_first (suc n) (a ∷ xs) (w ∷ ws) (m ∷ ms) e = refl

same_marks : (b i n : ℕ) (xs ws ms : List ℕ) → length (list_in n xs ws ms) ≡ n → first_bad_mark b i n ms ≡ first_bad_mark b i n (map (λ p. p.mark) (list_in n xs ws ms))
unfolding list_in first_bad_mark
same_marks b i zero xs ws ms e = refl
same_marks b i (suc n) [] ws ms e = absurd (omega arith)
same_marks b i (suc n) (a ∷ xs) [] ms e = absurd (omega arith)
same_marks b i (suc n) (a ∷ xs) (w ∷ ws) [] e = absurd (omega arith)
same_marks b i (suc n) (a ∷ xs) (w ∷ ws) (m ∷ ms) e =
    λ k. elim (bad_mark b m (same_first n xs ws ms (omega arith) k)) [ true ↦ Some i | false ↦ same_marks m (suc i) n xs ws ms (omega arith) k ]

-- refusal 9: each slice has n places
long_enough : (n : ℕ) (xs ws ms : List ℕ) → length (list_in n xs ws ms) ≡ n → (n ≤ length xs) × (n ≤ length ws) × (n ≤ length ms)
unfolding list_in
long_enough zero xs ws ms e = omega arith
long_enough (suc n) [] ws ms e = absurd (omega arith)
long_enough (suc n) (a ∷ xs) [] ms e = absurd (omega arith)
long_enough (suc n) (a ∷ xs) (w ∷ ws) [] e = absurd (omega arith)
long_enough (suc n) (a ∷ xs) (w ∷ ws) (m ∷ ms) e = let h = long_enough n xs ws ms (omega arith) in omega arith

not_short : (x : Slices) (n : ℕ) → length (held n x) ≡ n → short x n ≡ false
unfolding short held
not_short x n e =
    let h = long_enough n x.addresses x.words x.marks e in
    rw (le-ltb (length x.addresses) n h.0, le-ltb (length x.words) n h.1, le-ltb (length x.marks) n h.2)

-- the answer: only 8 and 11 are left, and 11 is the list's
pub call_answers : (x : Slices) (n : ℕ) (d : ℤ) → length (held n x) ≡ n → first_bad_mark 0 0 n (map (λ p. p.mark) (held n x)) ≡ None
    → move_answer x n d ≡ refuse_if (far d) 8 0 (refuse_at (first_outside d 0 (held n x)) 11 (accepted n))
unfolding move_answer held refuse_if refuse_at
call_answers x n d e h =
    rw (not_short x n e, same_marks 0 0 n x.addresses x.words x.marks e, h, same_outside d 0 n x.addresses x.words x.marks e)

-- what is written: the next word is the list's, and so the list is moved
same_next : (n : ℕ) (xs ws ms : List ℕ) → length (list_in n xs ws ms) ≡ n → first_in n ws ≡ first_word (list_in n xs ws ms)
unfolding list_in first_in first_word
same_next zero xs ws ms e = refl
same_next (suc n) [] ws ms e = absurd (omega arith)
same_next (suc n) (a ∷ xs) [] ms e = absurd (omega arith)
same_next (suc n) (a ∷ xs) (w ∷ ws) [] e = absurd (omega arith)
same_next (suc n) (a ∷ xs) (w ∷ ws) (m ∷ ms) e = refl

list_written : (d : ℤ) (n : ℕ) (xs ws ms : List ℕ) → length (list_in n xs ws ms) ≡ n → list_in n (move_addresses d n xs) (move_words d n ms ws) ms ≡ tally_list d (list_in n xs ws ms)
unfolding list_in move_addresses move_words tally_list moved_place
list_written d zero xs ws ms e = refl
list_written d (suc n) [] ws ms e = absurd (omega arith)
list_written d (suc n) (a ∷ xs) [] ms e = absurd (omega arith)
list_written d (suc n) (a ∷ xs) (w ∷ ws) [] e = absurd (omega arith)
list_written d (suc n) (a ∷ xs) (w ∷ ws) (m ∷ ms) e =
    let f : suc (length (list_in n xs ws ms)) ≡ suc n = e in
    let g : length (list_in n xs ws ms) ≡ n = omega arith in
    rw (same_next n xs ws ms g, list_written d n xs ws ms g)

pub call_writes : (x : Slices) (n : ℕ) (d : ℤ) → length (held n x) ≡ n → held n (move_by (accepted n) d x) ≡ tally_list d (held n x)
unfolding move_by held
call_writes x n d e = list_written d n x.addresses x.words x.marks e
