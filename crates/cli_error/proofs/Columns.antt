-- A number in columns, and the front of a line. Assumes nothing.
use Rattle.std.proofs.Common.{◌≡◌, ℕ, ◌+◌, ◌-◌, ◌≤◌, Bool, true, false, refl, ◌++◌, length, take, replicate, min, arith}
use Rattle.std.proofs.lemmas.List.{take-replicate}
use native.Mathlib.Nat.{min-eq_left, min-eq_right}
use mathlib.Core.List.{append_assoc}
use lib.Seq.{take_at, take_all}
use lib.Dec.{leb}
use borrow.Author.Tests.{leb-true, leb-false}
use Rattle.rules.specs.Text.{Text}
use Rattle.text.specs.Spans.{over_from}

-- a text put over the front of a slice is its front
pub front_put : (s x : Text) (n : ℕ) → n ≡ 0 + length s → take n (over_from 0 s x) ≡ s
unfolding over_from
front_put s x n e = take_at s _ n (omega (arith, e))

-- spaces in front of a number that takes n of k columns
pub spaces : (k n : ℕ) → k ≤ 4 → take {A = ℕ} (k - min n k) (replicate 4 32) ≡ replicate (k - n) 32
spaces k n h = go (leb n k) refl
  where
    go : (y : Bool) → leb n k ≡ y → take {A = ℕ} (k - min n k) (replicate 4 32) ≡ replicate (k - n) 32
    go true e = rw (min-eq_left (leb-true n k e)) (take-replicate (k - n) 4 32 (omega arith))
    go false e =
        let l = leb-false n k e in
        let z : k - k ≡ 0 = omega arith in
        let u : k - n ≡ 0 = omega arith in
        let m : k ≤ n = omega arith in
        rw (min-eq_right m, z, u)

-- a line cut at 120 bytes
pub front_of : (l : Text) (n : ℕ) → take (min (length l) n) l ≡ take n l
front_of l n = go (leb (length l) n) refl
  where
    go : (y : Bool) → leb (length l) n ≡ y → take (min (length l) n) l ≡ take n l
    go true e =
        let h = leb-true (length l) n e in
        rw (min-eq_left h, take_all (length l) l (omega arith), take_all n l h)
    go false e =
        let h = leb-false (length l) n e in
        let m : n ≤ length l = omega arith in
        rw (min-eq_right m)

-- a text appended in parts
pub appended : (x s t : Text) → (x ++ s) ++ t ≡ x ++ (s ++ t)
appended x s t = append_assoc x s t
