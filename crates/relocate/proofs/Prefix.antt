-- The rules' first n places are a prefix. Assumes nothing.
use Rattle.std.proofs.Common.{◌<◌, cond, ltb, ltb-false, get_or, ◌≡◌, ℕ, zero, suc, ◌≤◌, Bool, true, false, List, [], ◌∷◌, ◌++◌, length, map, take, drop, ℤ, refl, ap, add-one, arith}
use Rattle.std.specs.Prelude.{None, Some, position}
use Rattle.std.specs.List.{position_from, position_or_len}
use Rattle.std.proofs.lemmas.List.Sums.{fails_before_first}
use Rattle.std.proofs.lemmas.Iterator.Adapters.{position_from-zero}
use Rattle.rules.specs.Relocate.{moved_address, moved_word, first_in, first_index, bad_mark, first_bad_mark, move_addresses, move_words}

pub addresses_moved : (d : ℤ) (n : ℕ) (xs : List ℕ) → move_addresses d n xs ≡ map (moved_address d) (take n xs) ++ drop n xs
unfolding move_addresses
addresses_moved d zero xs = refl
addresses_moved d (suc n) [] = refl
addresses_moved d (suc n) (x ∷ xs) = ap (λ r. moved_address d x ∷ r) (addresses_moved d n xs)

first_in_prefix : (n : ℕ) (ws : List ℕ) → first_in n ws ≡ first_in (length (take n ws)) (take n ws)
unfolding first_in
first_in_prefix zero ws = refl
first_in_prefix (suc n) [] = refl
first_in_prefix (suc n) (w ∷ ws) = refl

pub words_moved : (d : ℤ) (n : ℕ) (ms ws : List ℕ) → n ≤ length ms → move_words d n ms ws ≡ move_words d (length (take n ws)) (take n ms) (take n ws) ++ drop n ws
unfolding move_words
words_moved d zero ms ws h = refl
words_moved d (suc n) [] ws h = absurd (omega arith)
words_moved d (suc n) (m ∷ ms) [] h = refl
words_moved d (suc n) (m ∷ ms) (w ∷ ws) h = rw (← first_in_prefix n ws) (ap (λ r. moved_word d m w (first_in n ws) ∷ r) (words_moved d n ms ws (omega arith)))

pub bad_in_prefix : (b i n : ℕ) (ms : List ℕ) → first_bad_mark b i (length (take n ms)) (take n ms) ≡ first_bad_mark b i n ms
unfolding first_bad_mark
bad_in_prefix b i zero ms = refl
bad_in_prefix b i (suc n) [] = refl
bad_in_prefix b i (suc n) (m ∷ ms) = go (bad_mark b m (first_in n ms)) refl (bad_in_prefix m (suc i) n ms)
  where
    go : (y : Bool) → bad_mark b m (first_in n ms) ≡ y → first_bad_mark m (suc i) (length (take n ms)) (take n ms) ≡ first_bad_mark m (suc i) n ms
        → first_bad_mark b i (suc (length (take n ms))) (m ∷ take n ms) ≡ first_bad_mark b i (suc n) (m ∷ ms)
    go true e h = let p = rw (first_in_prefix n ms) at e in rw (e, p, first_bad_mark)
    go false e h = let p = rw (first_in_prefix n ms) at e in rw (e, p, first_bad_mark) h

from : (f : ℕ → Bool) (i n : ℕ) (xs : List ℕ) → first_index f i n xs ≡ position_from f i (take n xs)
unfolding first_index
from f i zero xs = refl
from f i (suc n) [] = refl
from f i (suc n) (x ∷ xs) = go (f x) refl (from f (suc i) n xs)
  where
    go : (y : Bool) → f x ≡ y → first_index f (suc i) n xs ≡ position_from f (suc i) (take n xs) → first_index f i (suc n) (x ∷ xs) ≡ position_from f i (x ∷ take n xs)
    go true e h = rw (e, first_index, position_from)
    go false e h = rw (e, first_index, position_from) (rw (add-one i) h)

pub index_in_prefix : (f : ℕ → Bool) (n : ℕ) (xs : List ℕ) → first_index f 0 n xs ≡ position f (take n xs)
index_in_prefix f n xs = rw (position_from-zero f (take n xs)) (from f 0 n xs)

-- where none is found, none passes
pub none_passes : (f : ℕ → Bool) (xs : List ℕ) → position f xs ≡ None → (k d : ℕ) → k < length xs → f (get_or xs k d) ≡ false
none_passes f xs e k d h = go (ltb (position_or_len f xs) (length xs)) refl e
  where
    go : (y : Bool) → ltb (position_or_len f xs) (length xs) ≡ y → cond y (Some (position_or_len f xs)) None ≡ None → f (get_or xs k d) ≡ false
    go true p q = absurd (let z : ◌≡◌ {A = ℕ} 0 1 = cc in omega arith)
    go false p q = let l = ltb-false (position_or_len f xs) (length xs) p in fails_before_first f xs k d (omega arith)
