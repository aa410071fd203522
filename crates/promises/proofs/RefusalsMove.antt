-- Conditions 8 to 11 are those by which moving refuses, in the rules' order. Assumes nothing.
use Prim.Native.Nat.{ℕ}
use mathlib.Core.Path.{◌≡◌, refl}
use mathlib.Core.Bool.{true, false}
use native.Mathlib.Omega.{arith}
use borrow.Author.Tests.{ltb-true, ltb-false, leb-true, le-leb}
use lib.ListN.{get_or}
use lib.Dec.{leb}
use lib.IntN.{ℤ, pos, negsuc, ◌+ℤ◌, nat_abs}
use Rattle.rules.specs.Limits.{last_address, distance_limit}
use Rattle.rules.specs.Assemble.{Slices, short}
use Rattle.rules.specs.Relocate.{far, outside, first_index, move_answer}
use Rattle.promises.specs.Stages.{Checked}
use Rattle.promises.specs.Refusals.{BadMark, OutOfRange, too_low, too_high, Lowest, MoveCondition, distance_over, count_over, mark_wrong, address_out, moving}
use Rattle.promises.proofs.Compared.{clash}
use Rattle.promises.proofs.RefusalsSearch.{Found, search_finds}
use Rattle.promises.proofs.RefusalsMarks.{marks_found}
use Rattle.promises.proofs.Stages.{is_checked, checked_by, Runs, done, refuse_if_lem, refuse_at_lem}
use Rattle.promises.proofs.RefusalsShort.{shorter, long_enough, is_short}

-- the test for a moved address decides what condition 11 says of it
out_of_range : (z : ℤ) → outside z ≡ true → OutOfRange z
unfolding outside
out_of_range (pos n) e = too_high {n = n} (let h = ltb-true last_address n e in omega arith)
out_of_range (negsuc n) e = too_low

in_range : (z : ℤ) → outside z ≡ false → ¬ OutOfRange z
unfolding outside
in_range (pos n) e = λ v. go v
  where
    go : OutOfRange (pos n) → ⊥
    go (too_high h) = let k = ltb-false last_address n e in omega arith
in_range (negsuc n) e = clash cc

module _ (x : Slices) (count : ℕ) (d : ℤ) where
  abbrev C : ℕ → ℕ → Type 0
  C = MoveCondition x count d

  -- an address that leaves its range
  abbrev Leaves : ℕ → Type 0
  Leaves a = OutOfRange (pos a +ℤ d)

  -- the numbers are 8 to 11
  pub known : (n p : ℕ) → C n p → Checked n moving
  unfolding is_checked
  known n p (distance_over h) = checked_by 8 moving refl
  known n p (count_over h) = checked_by 9 moving refl
  known n p (mark_wrong h) = checked_by 10 moving refl
  known n p (address_out h) = checked_by 11 moving refl

  -- what each condition says of its test and its place
  to_8 : (q : ℕ) → C 8 q → (leb distance_limit (nat_abs d) ≡ true) × (q ≡ 0)
  to_8 q (distance_over h) = (le-leb distance_limit (nat_abs d) h, refl)

  to_9 : (q : ℕ) → C 9 q → (short x count ≡ true) × (q ≡ count)
  to_9 q (count_over h) = (is_short x count h, refl)

  to_10 : (q : ℕ) → C 10 q → Lowest (BadMark x.marks count) count q
  to_10 q (mark_wrong h) = h

  to_11 : (q : ℕ) → C 11 q → Lowest (λ i. Leaves (get_or x.addresses i 0)) count q
  to_11 q (address_out h) = h

  -- where 9 does not hold, the search stays inside the slice
  addresses_found : short x count ≡ false → Found (λ i. Leaves (get_or x.addresses i 0)) count (first_index (λ a. outside (pos a +ℤ d)) 0 count x.addresses)
  addresses_found e =
      search_finds (λ a. outside (pos a +ℤ d)) Leaves (λ a. out_of_range (pos a +ℤ d)) (λ a. in_range (pos a +ℤ d))
      count x.addresses (long_enough x count e).0

  -- 8, 9, 10, 11
  pub answered : Runs C moving (move_answer x count d)
  unfolding move_answer far
  answered =
      refuse_if_lem C 8 0 (leb distance_limit (nat_abs d)) _ (λ e. distance_over (leb-true distance_limit (nat_abs d) e)) to_8 λ e8.
      refuse_if_lem C 9 count (short x count) _ (λ e. count_over (shorter x count e)) to_9 λ e9.
      refuse_at_lem C (BadMark x.marks count) 10 count _ _ (marks_found x.marks count (long_enough x count e9).2) (λ p h. mark_wrong h) to_10
      (refuse_at_lem C (λ i. Leaves (get_or x.addresses i 0)) 11 count _ _ (addresses_found e9) (λ p h. address_out h) to_11 done)
