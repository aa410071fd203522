-- A loop that replaces each place of a slice, in order. Assumes nothing.
use Rattle.std.proofs.Common.{◌≡◌, ℕ, zero, suc, ◌+◌, ◌<◌, ◌≤◌, List, [], ◌∷◌, length, map, get_or, set, ℤ, refl, ap, ◌∙◌, add-one, arith}
use Rattle.rules.specs.Relocate.{moved_word, first_in, move_words}

-- the first n numbers, each replaced by what f makes of its index and of it
unfoldable pub map_first : (ℕ → ℕ → ℕ) → ℕ → List ℕ → List ℕ
map_first f zero xs = xs
map_first f (suc n) [] = []
map_first f (suc n) (x ∷ xs) = f 0 x ∷ map_first (λ i. f (suc i)) n xs

first_length : (f : ℕ → ℕ → ℕ) (n : ℕ) (xs : List ℕ) → length (map_first f n xs) ≡ length xs
unfolding map_first
first_length f zero xs = refl
first_length f (suc n) [] = refl
first_length f (suc n) (x ∷ xs) = ap suc (first_length (λ i. f (suc i)) n xs)

-- the others are as they were
first_after : (f : ℕ → ℕ → ℕ) (n k : ℕ) (xs : List ℕ) → n ≤ k → get_or (map_first f n xs) k 0 ≡ get_or xs k 0
unfolding map_first
first_after f zero k xs h = refl
first_after f (suc n) k [] h = refl
first_after f (suc n) zero (x ∷ xs) h = absurd (omega arith)
first_after f (suc n) (suc k) (x ∷ xs) h = first_after (λ i. f (suc i)) n k xs (omega arith)

first_set : (f : ℕ → ℕ → ℕ) (n : ℕ) (xs : List ℕ) → n < length xs → set (map_first f n xs) n (f n (get_or xs n 0)) ≡ map_first f (suc n) xs
unfolding map_first
first_set f zero [] h = absurd (omega arith)
first_set f zero (x ∷ xs) h = refl
first_set f (suc n) [] h = refl
first_set f (suc n) (x ∷ xs) h = ap (λ r. f 0 x ∷ r) (first_set (λ i. f (suc i)) n xs (omega arith))

-- of the slice xs, which is now ys, the first i places are replaced
pub record Swept (f : ℕ → ℕ → ℕ) (xs ys : List ℕ) (i : ℕ) : Type 0 where
  pub long : length ys ≡ length xs
  pub same : ys ≡ map_first f i xs

pub sweep_starts : (f : ℕ → ℕ → ℕ) (xs : List ℕ) → Swept f xs xs 0
unfolding map_first
sweep_starts f xs = record { long = refl; same = refl }

module _ {f : ℕ → ℕ → ℕ} {xs ys : List ℕ} {i : ℕ} (s : Swept f xs ys i) where
  -- what is read from there on stood there at first
  pub sweep_reads : (k : ℕ) → i ≤ k → get_or ys k 0 ≡ get_or xs k 0
  sweep_reads k h = rw s.same (first_after f i k xs h)

  pub sweep_steps : i < length xs → (v : ℕ) → v ≡ f i (get_or ys i 0) → Swept f xs (set ys i v) (i + 1)
  sweep_steps k v e =
      let w : set ys i v ≡ map_first f (i + 1) xs = rw (add-one i, e, sweep_reads i (omega arith), s.same) (first_set f i xs k) in
      record { long = ap length w ∙ first_length f (i + 1) xs; same = w }

  pub sweep_ends : i ≡ length xs → ys ≡ map_first f (length xs) xs
  sweep_ends e = rw e at s.same

  -- where the last is written apart
  pub sweep_last : i + 1 ≡ length xs → (k : ℕ) → k ≡ i → (v : ℕ) → v ≡ f k (get_or ys k 0) → set ys k v ≡ map_first f (length xs) xs
  sweep_last n k e v u = rw (e, ← n) ((sweep_steps (omega arith) v (rw e at u)).same)

pub beyond : (xs : List ℕ) (k : ℕ) → length xs ≤ k → 0 ≡ get_or xs k 0
beyond [] k h = refl
beyond (x ∷ xs) zero h = absurd (omega arith)
beyond (x ∷ xs) (suc k) h = beyond xs k (omega arith)

pub no_words : (d : ℤ) (ms ws : List ℕ) → length ws ≡ 0 → ws ≡ move_words d (length ws) ms ws
unfolding move_words
no_words d ms [] e = refl
no_words d ms (w ∷ ws) e = absurd (omega arith)

pub all_swept : (f : ℕ → ℕ) (xs : List ℕ) → map_first (λ i x. f x) (length xs) xs ≡ map f xs
unfolding map_first
all_swept f [] = refl
all_swept f (x ∷ xs) = ap (λ r. f x ∷ r) (all_swept f xs)

pub first_in_all : (ws : List ℕ) → first_in (length ws) ws ≡ get_or ws 0 0
unfolding first_in
first_in_all [] = refl
first_in_all (w ∷ ws) = refl

pub words_swept : (d : ℤ) (ms ws : List ℕ) → length ws ≡ length ms → map_first (λ i w. moved_word d (get_or ms i 0) w (get_or ws (i + 1) 0)) (length ws) ws ≡ move_words d (length ws) ms ws
unfolding map_first move_words
words_swept d [] [] e = refl
words_swept d (m ∷ ms) [] e = refl
words_swept d [] (w ∷ ws) e = absurd (omega arith)
words_swept d (m ∷ ms) (w ∷ ws) e =
    let rest = words_swept d ms ws (omega arith) in
    let next : (i : ℕ) → get_or (w ∷ ws) (suc i + 1) 0 ≡ get_or ws (i + 1) 0 = λ i. rw (add-one (suc i), add-one i) in
    let same : map_first (λ i v. moved_word d (get_or ms i 0) v (get_or (w ∷ ws) (suc i + 1) 0)) (length ws) ws ≡ move_words d (length ws) ms ws =
    ap (λ (g : ℕ → ℕ). map_first (λ i v. moved_word d (get_or ms i 0) v (g i)) (length ws) ws) (λ k i. next i k) ∙ rest in
    rw (first_in_all ws, same)
