-- A search finds the lowest index at which a test passes. Assumes nothing.
use Rattle.std.specs.Prelude.{Option, None, Some}
use Prim.Native.Nat.{ℕ, zero, suc, ◌<◌, ◌≤◌}
use mathlib.Core.Path.{◌≡◌, refl}
use mathlib.Core.Bool.{Bool, true, false}
use mathlib.Core.List.{List, [], ◌∷◌}
use native.Mathlib.Omega.{arith}
use lib.ListN.{length, get_or}
use Rattle.rules.specs.Relocate.{first_index}
use Rattle.promises.specs.Refusals.{Lowest}
use Rattle.promises.proofs.Compared.{Compared, less, more, equal, compared}

-- a search for the lowest index below n at which P holds
pub data Found (P : ℕ → Type 0) (n : ℕ) : Option ℕ → Type 0 where
  found : {p : ℕ} → Lowest P n p → Found P n (Some p)
  nowhere : ((i : ℕ) → i < n → ¬ P i) → Found P n None

-- none found, none there
pub none_found : (P : ℕ → Type 0) (n : ℕ) → Found P n None → (i : ℕ) → i < n → ¬ P i
none_found P n (nowhere h) = h

-- there is one lowest index
pub lowest_once : (P : ℕ → Type 0) (n p q : ℕ) → Lowest P n p → Lowest P n q → p ≡ q
lowest_once P n p q h k = go (compared p q)
  where
    go : Compared p q → p ≡ q
    go (less l) = absurd (k.lowest p l h.holds)
    go (more l) = absurd (h.lowest q l k.holds)
    go (equal e) = e

-- an index counted from one more
unfoldable pub later : Option ℕ → Option ℕ
later None = None
later (Some p) = Some (suc p)

-- a search that goes on after index 0, where P does not hold
pub goes_on : (P : ℕ → Type 0) (n : ℕ) (o : Option ℕ) → ¬ P 0 → Found (λ i. P (suc i)) n o → Found P (suc n) (later o)
unfolding later
goes_on P n (Some p) d (found h) = found {p = suc p} (record { inside = omega (arith, h.inside); holds = h.holds; lowest = go })
  where
    go : (i : ℕ) → i < suc p → ¬ P i
    go zero l = d
    go (suc i) l = h.lowest i (omega arith)
goes_on P n None d (nowhere h) = nowhere go
  where
    go : (i : ℕ) → i < suc n → ¬ P i
    go zero l = d
    go (suc i) l = h i (omega arith)

-- the search of the definitions, by a test f that decides Q
module _ (f : ℕ → Bool) (Q : ℕ → Type 0) (yes : (x : ℕ) → f x ≡ true → Q x) (no : (x : ℕ) → f x ≡ false → ¬ Q x) where
  shift : (i n : ℕ) (xs : List ℕ) → first_index f (suc i) n xs ≡ later (first_index f i n xs)
  unfolding first_index later
  shift i zero xs = refl
  shift i (suc n) [] = refl
  shift i (suc n) (x ∷ xs) = go (f x) refl (shift (suc i) n xs)
    where
      go : (y : Bool) → f x ≡ y → first_index f (suc (suc i)) n xs ≡ later (first_index f (suc i) n xs) → first_index f (suc i) (suc n) (x ∷ xs) ≡ later (first_index f i (suc n) (x ∷ xs))
      go true e h = rw (e, first_index)
      go false e h = rw (e, first_index) h

  -- the search finds the lowest index below n
  pub search_finds : (n : ℕ) (xs : List ℕ) → n ≤ length xs → Found (λ i. Q (get_or xs i 0)) n (first_index f 0 n xs)
  unfolding first_index
  search_finds zero xs h = nowhere (λ i l. absurd (omega arith))
  search_finds (suc n) [] h = absurd (omega arith)
  search_finds (suc n) (x ∷ xs) h = go (f x) refl (search_finds n xs (omega arith))
    where
      go : (y : Bool) → f x ≡ y → Found (λ i. Q (get_or xs i 0)) n (first_index f 0 n xs) → Found (λ i. Q (get_or (x ∷ xs) i 0)) (suc n) (first_index f 0 (suc n) (x ∷ xs))
      go true e r = rw (e, first_index) (found {p = 0} (record { inside = omega arith; holds = yes x e; lowest = λ i l. absurd (omega arith) }))
      go false e r = rw (e, first_index, shift 0 n xs) (goes_on (λ i. Q (get_or (x ∷ xs) i 0)) n (first_index f 0 n xs) (no x e) r)
