-- The test for a slice that is too short decides what the conditions say of it. Assumes nothing.
use Prim.Native.Nat.{ℕ, ◌≤◌}
use mathlib.Core.Path.{◌≡◌, refl}
use mathlib.Core.Bool.{Bool, true, false, ◌||◌}
use native.Mathlib.Omega.{arith}
use borrow.Author.Tests.{ltb-true, ltb-false}
use lib.ListN.{length}
use lib.Dec.{ltb}
use Rattle.rules.specs.Assemble.{Slices, short}
use Rattle.promises.specs.Refusals.{Shorter, addresses, words, marks}
use Rattle.promises.proofs.Compared.{clash}

-- the three lengths, by what the test answers
data Lengths (x : Slices) (n : ℕ) : Bool → Type 0 where
  less : Shorter x n → Lengths x n true
  enough : n ≤ length x.addresses → n ≤ length x.words → n ≤ length x.marks → Lengths x n false

lengths : (x : Slices) (n : ℕ) → Lengths x n (short x n)
unfolding short
lengths x n = go (ltb (length x.addresses) n) (ltb (length x.words) n) (ltb (length x.marks) n) refl refl refl
  where
    go : (a b c : Bool) → ltb (length x.addresses) n ≡ a → ltb (length x.words) n ≡ b → ltb (length x.marks) n ≡ c → Lengths x n (a || b || c)
    go true b c f g h = less (addresses (ltb-true (length x.addresses) n f))
    go false true c f g h = less (words (ltb-true (length x.words) n g))
    go false false true f g h = less (marks (ltb-true (length x.marks) n h))
    go false false false f g h =
        enough (ltb-false (length x.addresses) n f) (ltb-false (length x.words) n g) (ltb-false (length x.marks) n h)

-- the test passes: one of the slices is too short
pub shorter : (x : Slices) (n : ℕ) → short x n ≡ true → Shorter x n
shorter x n = go (lengths x n)
  where
    go : {y : Bool} → Lengths x n y → y ≡ true → Shorter x n
    go (less h) e = h
    go (enough h k l) e = clash cc

-- the test fails: each slice has n places, so none is too short
pub long_enough : (x : Slices) (n : ℕ) → short x n ≡ false → (n ≤ length x.addresses) × (n ≤ length x.words) × (n ≤ length x.marks)
long_enough x n = go (lengths x n)
  where
    go : {y : Bool} → Lengths x n y → y ≡ false → (n ≤ length x.addresses) × (n ≤ length x.words) × (n ≤ length x.marks)
    go (less h) e = clash cc
    go (enough h k l) e = (h, k, l)

pub not_shorter : (x : Slices) (n : ℕ) → short x n ≡ false → ¬ Shorter x n
not_shorter x n e (addresses h) = let k = (long_enough x n e).0 in omega arith
not_shorter x n e (words h) = let k = (long_enough x n e).1 in omega arith
not_shorter x n e (marks h) = let k = (long_enough x n e).2 in omega arith

pub is_short : (x : Slices) (n : ℕ) → Shorter x n → short x n ≡ true
is_short x n h = go (short x n) refl
  where
    go : (y : Bool) → short x n ≡ y → short x n ≡ true
    go true e = e
    go false e = absurd (not_shorter x n e h)
