-- The mover, by the rules: refusals 8 to 11, and the lent slices after a call. To move a list is to relocate it. Assumes nothing.
use Rattle.std.specs.Prelude.{ℕ, zero, suc, ◌+◌, ◌*◌, ◌/◌, ◌%◌, ◌^◌, Bool, true, false, not, ◌&&◌, ◌||◌, cond, List, [], ◌∷◌, leb, ltb, eqb, ℤ, pos, negsuc, ◌+ℤ◌, nat_abs, Option, None, Some}
use Rattle.rules.specs.Limits.{last_address, distance_limit}
use Rattle.rules.specs.Number.{modulo}
use Rattle.rules.specs.Answer.{Answer, accepted, refused, refuse_if, refuse_at}
use Rattle.rules.specs.Assemble.{Slices, short}

-- "8 distance outside ±(2^30 − 1)"
unfoldable pub far : ℤ → Bool
far d = leb distance_limit (nat_abs d)

-- "below 0 or above 2^30 + 1"
unfoldable pub outside : ℤ → Bool
outside (pos n) = ltb last_address n
outside (negsuc n) = true

-- "it adds the distance to each address"
unfoldable pub moved_address : ℤ → ℕ → ℕ
moved_address d a = nat_abs (pos a +ℤ d)

-- "a marked word becomes (word + distance) modulo 65,536"
unfoldable pub added_word : ℤ → ℕ → ℕ
added_word d w = (w + modulo 65536 d) % 65536

-- "The mover adds the distance to such a pair as one number modulo 2^32": the number, and its high word
unfoldable pub added_pair : ℤ → ℕ → ℕ → ℕ
added_pair d high low = (65536 * high + low + modulo (2 ^ 32) d) % 2 ^ 32

unfoldable pub added_high : ℤ → ℕ → ℕ → ℕ
added_high d high low = added_pair d high low / 65536

-- a word moved, by its mark and the next word. "A 32-bit label address carries mark 2 on its high word and 3 on the low":
-- a low word moves as a word of mark 1 does, and only a high word looks at the next one, for the carry
unfoldable pub moved_word : ℤ → ℕ → ℕ → ℕ → ℕ
moved_word d m w next = cond (eqb m 0) w (cond (eqb m 2) (added_high d w next) (added_word d w))

-- the first of n numbers; 0, which is no mark of a pair, if there is none
unfoldable pub first_in : ℕ → List ℕ → ℕ
first_in zero xs = 0
first_in (suc n) [] = 0
first_in (suc n) (x ∷ xs) = x

-- the index, counted from i, of the first of n numbers that passes the test
unfoldable pub first_index : (ℕ → Bool) → ℕ → ℕ → List ℕ → Option ℕ
first_index f i zero xs = None
first_index f i (suc n) [] = None
first_index f i (suc n) (x ∷ xs) = elim (f x) [ true ↦ Some i | false ↦ first_index f (suc i) n xs ]

-- "refusal 10 now covers a mark over 3, a 2 not followed by a 3 and a 3 not preceded by a 2"
unfoldable pub bad_mark : ℕ → ℕ → ℕ → Bool
bad_mark before m next = ltb 3 m || (eqb m 2 && not (eqb next 3)) || (eqb m 3 && not (eqb before 2))

-- the index, counted from i, of the first bad one of n marks that follow the mark `before`
unfoldable pub first_bad_mark : ℕ → ℕ → ℕ → List ℕ → Option ℕ
first_bad_mark before i zero ms = None
first_bad_mark before i (suc n) [] = None
first_bad_mark before i (suc n) (m ∷ ms) =
    elim (bad_mark before m (first_in n ms)) [ true ↦ Some i | false ↦ first_bad_mark m (suc i) n ms ]

-- the first n addresses, moved
unfoldable pub move_addresses : ℤ → ℕ → List ℕ → List ℕ
move_addresses d zero xs = xs
move_addresses d (suc n) [] = []
move_addresses d (suc n) (x ∷ xs) = moved_address d x ∷ move_addresses d n xs

-- the first n words, moved by their marks; the word after the n-th is never looked at
unfoldable pub move_words : ℤ → ℕ → List ℕ → List ℕ → List ℕ
move_words d zero ms ws = ws
move_words d (suc n) [] ws = ws
move_words d (suc n) (m ∷ ms) [] = []
move_words d (suc n) (m ∷ ms) (w ∷ ws) = moved_word d m w (first_in n ws) ∷ move_words d n ms ws

-- "Moving checks 8, 9, then 10 over all count places, then 11 over all of them, each with its lowest index."
unfoldable pub move_answer : Slices → ℕ → ℤ → Answer ℕ
move_answer x n d =
    refuse_if (far d) 8 0
    (refuse_if (short x n) 9 n
    (refuse_at (first_bad_mark 0 0 n x.marks) 10
    (refuse_at (first_index (λ a. outside (pos a +ℤ d)) 0 n x.addresses) 11 (accepted n))))

-- the slices after a call that answers so: a refusal changes nothing, and marks never change
unfoldable pub move_by : Answer ℕ → ℤ → Slices → Slices
move_by (refused r p) d x = x
move_by (accepted n) d x =
    record { addresses = move_addresses d n x.addresses; words = move_words d n x.marks x.words; marks = x.marks }

unfoldable pub move_slices : Slices → ℕ → ℤ → Slices
move_slices x n d = move_by (move_answer x n d) d x
