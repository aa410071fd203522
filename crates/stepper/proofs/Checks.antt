-- The checks in their order, and the answer past them. Assumes nothing.
use Rattle.std.proofs.Common.{◌≡◌, ℕ, ◌+◌, ◌%◌, ◌<◌, ◌≤◌, Bool, true, false, not, ◌||◌, List, length, get_or, take, refl, sym, ◌∙◌, arith, eqb, ltb, ltb-false}
use Rattle.std.specs.Prelude.{Option, Some, None, position}
use mathlib.Core.Bool.{false≢true}
use Rattle.rules.specs.Answer.{accepted, refused, refuse_if, refuse_at}
use Rattle.rules.specs.Relocate.{first_index}
use Rattle.std.proofs.lemmas.List.{get_or-take, length-take-le}
use Rattle.relocate.proofs.Prefix.{index_in_prefix, none_passes}
use Rattle.machine.specs.Machine.{Run, run_of}
use Rattle.machine.specs.Bench.{short_list, misplaced, bench_answer, bench_of, state_at}
use Rattle.stepper.specs.Stepper.{instead}

-- an address that is not refused has room for a word
pub inside : (p : ℕ) → misplaced p ≡ false → p + 2 ≤ 16384
unfolding misplaced
inside p e = go (eqb (p % 2) 0) e
  where
    go : (x : Bool) → (not x || ltb 16382 p) ≡ false → p + 2 ≤ 16384
    go true e = let l = ltb-false 16382 p e in omega arith
    go false e = absurd (false≢true (sym e))

module _ (n : ℕ) (xs ws : List ℕ) where
  pub refuses_9 : short_list xs ws n ≡ true → bench_answer n xs ws n ≡ refused 9 n
  unfolding bench_answer refuse_if
  refuses_9 e = rw e

  module _ (s : short_list xs ws n ≡ false) where
    pub refuses_19 : (i : ℕ) → position misplaced (take n xs) ≡ Some i → bench_answer n xs ws n ≡ refused 19 i
    unfolding bench_answer refuse_if refuse_at
    refuses_19 i e = rw (s, index_in_prefix misplaced n xs ∙ e)

    pub accepts : position misplaced (take n xs) ≡ None → bench_answer n xs ws n ≡ accepted n
    unfolding bench_answer refuse_if refuse_at
    accepts e = rw (s, index_in_prefix misplaced n xs ∙ e)

  -- whatever is answered past the refusals
  pub past : (r : Run) → bench_answer n xs ws r ≡ instead r (bench_answer n xs ws n)
  unfolding bench_answer refuse_if refuse_at
  past r = go (short_list xs ws n) (first_index misplaced 0 n xs)
    where
      go : (b : Bool) (o : Option ℕ) → refuse_if b 9 n (refuse_at o 19 (accepted r)) ≡ instead r (refuse_if b 9 n (refuse_at o 19 (accepted n)))
      go true o = refl
      go false (Some i) = refl
      go false None = refl

  module _ (a : List ℕ) (pc limit : ℕ) where
    pub runs : (m : ℕ) → accepted m ≡ bench_answer n xs ws n → bench_of n xs ws a pc limit ≡ accepted (run_of limit (state_at n xs ws a pc))
    unfolding bench_of
    runs m e = rw (← e) at (past (run_of limit (state_at n xs ws a pc)))

    pub stops : (k p : ℕ) → refused k p ≡ bench_answer n xs ws n → bench_of n xs ws a pc limit ≡ refused k p
    unfolding bench_of
    stops k p e = rw (← e) at (past (run_of limit (state_at n xs ws a pc)))

-- each address of the list has room for a word, where none is refused
pub room_at : (n : ℕ) (xs : List ℕ) (i : ℕ) → position misplaced (take n xs) ≡ None → n ≤ length xs → i < n → get_or xs i 0 + 2 ≤ 16384
room_at n xs i e l h =
    let t : length (take n xs) ≡ n = length-take-le n xs l in
    inside (get_or xs i 0) (rw (get_or-take n xs i 0 h) at (none_passes misplaced (take n xs) e i 0 (omega arith)))
