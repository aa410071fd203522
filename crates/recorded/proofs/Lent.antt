-- Slices whose first places were lent and came back. Assumes nothing.
use Rattle.std.proofs.Common.{◌≡◌, ℕ, List, ◌++◌, length, take, drop}
use Rattle.rules.specs.Text.{Text}
use Rattle.rules.specs.Assemble.{slices, over, assemble_answer, assemble_slices}
use Rattle.rules.specs.Answer.{Answer}
use Rattle.recorded.specs.Recorded.{front, onto, Called}

-- the first n places of l came back as `last`
came_back : (n : ℕ) (last l : List ℕ) → length last ≡ n → last ++ drop n l ≡ over last l
unfolding over
came_back n last l e = rw e

pub called : (base : ℕ) (source : Text) (i j k : ℕ) (xs ws ms : List ℕ) (r : Answer ℕ) (xs' ws' ms' : List ℕ)
    → r ≡ assemble_answer base source (slices (take i xs) (take j ws) (take k ms)) → slices xs' ws' ms' ≡ assemble_slices base source (slices (take i xs) (take j ws) (take k ms)) → length xs' ≡ i → length ws' ≡ j → length ms' ≡ k
    → Called base source i j k (slices xs ws ms) r (slices (xs' ++ drop i xs) (ws' ++ drop j ws) (ms' ++ drop k ms))
unfolding front onto
called base source i j k xs ws ms r xs' ws' ms' d f p q s =
    record {
      answer = d;
      after = rw (← f, came_back i xs' xs p, came_back j ws' ws q, came_back k ms' ms s);
    }

pub by_slice : {xs ws ms ys vs ns : List ℕ} → xs ≡ ys → ws ≡ vs → ms ≡ ns → slices xs ws ms ≡ slices ys vs ns
by_slice p q r = rw (p, q, r)
