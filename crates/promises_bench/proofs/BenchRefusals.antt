-- Conditions 9 and 19 are those by which the bench refuses, in the rules' order. Assumes nothing.
use Prim.Native.Nat.{ℕ, ◌%◌, ◌<◌, ◌≤◌}
use mathlib.Core.Path.{◌≡◌, refl}
use mathlib.Core.Bool.{Bool, true, false, not, ◌||◌}
use mathlib.Core.List.{List}
use native.Mathlib.Omega.{arith}
use lib.Dec.{ltb, eqb}
use lib.ListN.{length, get_or}
use borrow.Author.Tests.{ltb-true, ltb-false, lt-ltb, eqb-true, eqb-false}
use Rattle.rules.specs.Answer.{accepted}
use Rattle.machine.specs.Machine.{Run, run_of}
use Rattle.machine.specs.Bench.{short_list, misplaced, bench_answer, bench_of, state_at}
use Rattle.promises.specs.Stages.{Checked}
use Rattle.promises.specs.Refusals.{Lowest}
use Rattle.promises_bench.specs.BenchCall.{ListShorter, short_addresses, short_words, Misplaced, odd, above, BenchCondition, count_over, misplaced_at, benching, BenchRefusesExactly}
use Rattle.promises.proofs.Compared.{clash}
use Rattle.promises.proofs.RefusalsSearch.{none_found, search_finds}
use Rattle.promises.proofs.Stages.{apart, are_apart, is_checked, checked_by, Runs, done, refuse_if_lem, refuse_at_lem, refuses_exactly, none_holds}
use Rattle.promises.proofs.Accepted.{not_refused, not_refused_at}

-- the test for an address decides what condition 19 says of it
is_misplaced : (p : ℕ) → misplaced p ≡ true → Misplaced p
unfolding misplaced
is_misplaced p e = go (eqb (p % 2) 0) refl e
  where
    go : (x : Bool) → eqb (p % 2) 0 ≡ x → (not x || ltb 16382 p) ≡ true → Misplaced p
    go true d e = above (ltb-true 16382 p e)
    go false d e = odd (eqb-false (p % 2) 0 d)

not_misplaced : (p : ℕ) → misplaced p ≡ false → ¬ Misplaced p
unfolding misplaced
not_misplaced p e m = go (eqb (p % 2) 0) refl e m
  where
    go : (x : Bool) → eqb (p % 2) 0 ≡ x → (not x || ltb 16382 p) ≡ false → Misplaced p → ⊥
    go true d e (odd h) = h (eqb-true (p % 2) 0 d)
    go true d e (above h) = let k = ltb-false 16382 p e in omega arith
    go false d e m = clash cc

module _ (xs ws : List ℕ) (count : ℕ) where
  -- and the test of the lengths
  is_shorter : short_list xs ws count ≡ true → ListShorter xs ws count
  unfolding short_list
  is_shorter e = go (ltb (length xs) count) refl e
    where
      go : (x : Bool) → ltb (length xs) count ≡ x → (x || ltb (length ws) count) ≡ true → ListShorter xs ws count
      go true d e = short_addresses (ltb-true (length xs) count d)
      go false d e = short_words (ltb-true (length ws) count e)

  shorter_is : ListShorter xs ws count → short_list xs ws count ≡ true
  unfolding short_list
  shorter_is (short_addresses h) = rw (lt-ltb (length xs) count h)
  shorter_is (short_words h) = go (ltb (length xs) count)
    where
      go : (x : Bool) → (x || ltb (length ws) count) ≡ true
      go true = refl
      go false = lt-ltb (length ws) count h

  long_enough : short_list xs ws count ≡ false → count ≤ length xs
  unfolding short_list
  long_enough e = go (ltb (length xs) count) refl e
    where
      go : (x : Bool) → ltb (length xs) count ≡ x → (x || ltb (length ws) count) ≡ false → count ≤ length xs
      go true d e = clash cc
      go false d e = ltb-false (length xs) count d

  abbrev C : ℕ → ℕ → Type 0
  C = BenchCondition xs ws count

  known : (n p : ℕ) → C n p → Checked n benching
  unfolding is_checked
  known n p (count_over h) = checked_by 9 benching refl
  known n p (misplaced_at h) = checked_by 19 benching refl

  to_9 : (q : ℕ) → C 9 q → (short_list xs ws count ≡ true) × (q ≡ count)
  to_9 q (count_over h) = (shorter_is h, refl)

  to_19 : (q : ℕ) → C 19 q → Lowest (λ i. Misplaced (get_or xs i 0)) count q
  to_19 q (misplaced_at h) = h

  answered : (r : Run) → Runs C benching (bench_answer count xs ws r)
  unfolding bench_answer
  answered r =
      refuse_if_lem C 9 count (short_list xs ws count) _ (λ e. count_over (is_shorter e)) to_9 λ e.
      refuse_at_lem C (λ i. Misplaced (get_or xs i 0)) 19 count _ _ (search_finds misplaced Misplaced is_misplaced not_misplaced count xs (long_enough e)) (λ p h. misplaced_at h) to_19 done

  -- an accepted answer: no condition holds, and so no entry is misplaced
  pub no_condition : (r t : Run) → bench_answer count xs ws r ≡ accepted t → (n p : ℕ) → ¬ C n p
  unfolding apart
  no_condition r t e = none_holds C benching (are_apart benching refl) known t (bench_answer count xs ws r) e (answered r)

  pub none_misplaced : (r t : Run) → bench_answer count xs ws r ≡ accepted t → (i : ℕ) → i < count → ¬ Misplaced (get_or xs i 0)
  unfolding bench_answer
  none_misplaced r t e =
      let h = not_refused _ _ _ _ t e in
      let k = not_refused_at _ _ _ t h.1 in
      none_found (λ i. Misplaced (get_or xs i 0)) count (rw k.0 at (search_finds misplaced Misplaced is_misplaced not_misplaced count xs (long_enough h.0)))

pub bench_refuses_exactly : BenchRefusesExactly
unfolding BenchRefusesExactly bench_of apart
bench_refuses_exactly xs ws count a pc limit =
    refuses_exactly (BenchCondition xs ws count) benching (are_apart benching refl) (known xs ws count)
    (bench_answer count xs ws (run_of limit (state_at count xs ws a pc))) (answered xs ws count (run_of limit (state_at count xs ws a pc)))
