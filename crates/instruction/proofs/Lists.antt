-- Laws of parts of a list, and of texts put over its places. Assumes nothing.
use mathlib.Core.Path.{◌≡◌, refl, sym, ap, ◌∙◌}
use mathlib.Core.List.{[], ◌∷◌, ◌++◌}
use Prim.Native.Nat.{ℕ, zero, suc, ◌+◌, ◌-◌, ◌≤◌}
use native.Mathlib.Omega.{arith}
use lib.ListN.{length, take, drop, length-append}
use lib.Seq.{take-nil, take-take, take_at, drop_at, slice}
use Rattle.rules.specs.Text.{Text}
use Rattle.rules.specs.Assemble.{over}
use Rattle.text.specs.Spans.{part, over_from}
use Rattle.text.proofs.Over.{front_length, put_front, put_both}

-- ---- parts
-- a part as the library has it
pub slice_part : (a b : ℕ) (t : Text) → slice a b t ≡ part t a b
slice_part zero b t = let e : b - 0 ≡ b = omega arith in rw e
slice_part (suc a) zero t = let e : 0 - suc a ≡ 0 = omega arith in rw e
slice_part (suc a) (suc b) [] = sym (take-nil (suc b - suc a))
slice_part (suc a) (suc b) (x ∷ t) = let e : suc b - suc a ≡ b - a = omega arith in rw e (slice_part a b t)

-- the part of a part
pub part_part : (k n m : ℕ) (t : Text) → k + n ≤ m → take n (drop k (take m t)) ≡ take n (drop k t)
part_part k n m t h = ap (take n) (slice_part k m t) ∙ take-take n (m - k) (drop k t) (omega arith)

-- ---- texts put over places
module _ (n : ℕ) (new old : Text) (h : n + length new ≤ length old) where
  inside : n ≤ length old
  inside = omega arith

  pub take_over_from : take (n + length new) (over_from n new old) ≡ take n old ++ new
  take_over_from = rw (put_front n (n + length new) new old refl inside) (take_at (take n old ++ new) _ _ (front_length n (n + length new) new old refl inside))

  pub drop_over_from : drop (n + length new) (over_from n new old) ≡ drop (n + length new) old
  drop_over_from = rw (put_front n (n + length new) new old refl inside) (drop_at (take n old ++ new) _ _ (front_length n (n + length new) new old refl inside))

-- one text, and another after it
pub over_after : (n : ℕ) (a b old : Text) → n + length a + length b ≤ length old → over_from (n + length a) b (over_from n a old) ≡ over_from n (a ++ b) old
over_after n a b old h = sym (put_both n (n + length a) a old refl (omega arith) b)

-- the front of a slice over which a text was put is that text
pub take_over : (new old l : Text) (n : ℕ) → l ≡ over new old → n ≡ length new → take n l ≡ new
unfolding over
take_over new old l n e h = rw e (take_at new (drop (length new) old) n (sym h))

pub over_room : (new old l : Text) (n : ℕ) → l ≡ over new old → n ≡ length new → n ≤ length l
unfolding over
over_room new old l n e h = omega (arith, ap length e, length-append new (drop (length new) old))
