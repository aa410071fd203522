-- Laws of hashes and of a hash's last row: a hash byte by byte, and what being the last says of the rows. Assumes nothing.
use mathlib.Core.Path.{◌≡◌, refl, sym, ◌∙◌}
use mathlib.Core.Bool.{Bool, true, false}
use mathlib.Core.List.{[], ◌∷◌}
use Prim.Native.Nat.{ℕ, zero, suc, ◌+◌, ◌*◌, ◌%◌, ◌≤◌, ◌<◌}
use native.Mathlib.Numerals.{add-one}
use native.Mathlib.Omega.{arith}
use borrow.Author.Tests.{eq-eqb, ne_eqb, eqb-true, eqb-false}
use lib.Dec.{eqb}
use lib.ListN.{length, drop, get_or, drop_of_length-le}
use lib.Seq.{drop-cons}
use Rattle.rules.specs.Text.{Text}
use Rattle.label.specs.Table.{hashes, hash_from, hash_of, last_with}

-- ---- the loop over a name's bytes
-- what it keeps: with the hash so far, the bytes that are left come to the name's
pub record Hashing (t : Text) (h i : ℕ) : Type 0 where
  pub upto : i ≤ length t
  pub small : h < hashes
  pub so_far : hash_from h (drop i t) ≡ hash_of t

module _ {t : Text} {h i : ℕ} (inv : Hashing t h i) where
  pub hash_more : i < length t → {b : ℕ} → b ≡ get_or t i 0 → Hashing t ((53 * h + b) % hashes) (i + 1)
  unfolding hash_from
  hash_more l e = record { upto = omega arith; small = omega arith; so_far = rw (e, add-one i) (rw (drop-cons t i 0 l) at inv.so_far) }

  pub hash_all : length t ≤ i → h ≡ hash_of t
  unfolding hash_from
  hash_all l = rw (drop_of_length-le t l) at inv.so_far

hash_small : (h : ℕ) (t : Text) → h < hashes → hash_from h t < hashes
unfolding hash_from
hash_small h [] l = l
hash_small h (b ∷ t) l = hash_small ((53 * h + b) % hashes) t (omega arith)

pub hash_below : (t : Text) → hash_of t < hashes
hash_below t = hash_small 0 t (omega arith)

pub hash_is_below : (t : Text) {h : ℕ} → h ≡ hash_of t → h < hashes
hash_is_below t e = omega (arith, hash_below t)

-- ---- the last row of a hash
module _ (f : ℕ → ℕ) (h : ℕ) where
  pub last_here : (n : ℕ) → f n ≡ h → last_with f h (suc n) ≡ suc n
  unfolding last_with
  last_here n e = rw (eq-eqb (f n) h e, last_with)

  pub last_before : (n : ℕ) → (f n ≡ h → ⊥) → last_with f h (suc n) ≡ last_with f h n
  unfolding last_with
  last_before n d = rw (ne_eqb (f n) h d, last_with)

  -- row k, counted from 1, is of the hash h, and no row from k on is
  pub record Last (n k : ℕ) : Type 0 where
    pub upto : k ≤ n
    pub hash : (j : ℕ) → k ≡ suc j → f j ≡ h
    pub above : (j : ℕ) → k ≤ j → j < n → f j ≡ h → ⊥

  pub last : (n : ℕ) → Last n (last_with f h n)
  unfolding last_with
  last zero = record { upto = omega arith; hash = λ j e. absurd (omega arith); above = λ j p q e. omega arith }
  last (suc n) = go (eqb (f n) h) refl (last n)
    where
      other : (f n ≡ h → ⊥) → Last n (last_with f h n) → (j : ℕ) → last_with f h n ≤ j → j < suc n → (y : Bool) → eqb j n ≡ y → f j ≡ h → ⊥
      other d l j p q true e z = let g : j ≡ n = eqb-true j n e in d (rw g at z)
      other d l j p q false e z = l.above j p (omega (arith, eqb-false j n e)) z

      go : (y : Bool) → eqb (f n) h ≡ y → Last n (last_with f h n) → Last (suc n) (last_with f h (suc n))
      go true e l =
          let z : f n ≡ h = eqb-true (f n) h e in
          rw (last_here n z) (record { upto = omega arith; hash = λ j q. let g : n ≡ j = omega arith in rw g at z; above = λ j p q r. omega arith })
      go false e l =
          let d : f n ≡ h → ⊥ = eqb-false (f n) h e in
          rw (last_before n d) (record { upto = omega (arith, l.upto); hash = l.hash; above = λ j p q. other d l j p q (eqb j n) refl })

-- hashes that agree
pub last_same : (f g : ℕ → ℕ) (h n : ℕ) → ((k : ℕ) → k < n → f k ≡ g k) → last_with f h n ≡ last_with g h n
unfolding last_with
last_same f g h zero e = refl
last_same f g h (suc n) e = go (eqb (g n) h) refl (last_same f g h n (λ k l. e k (omega arith)))
  where
    go : (y : Bool) → eqb (g n) h ≡ y → last_with f h n ≡ last_with g h n → last_with f h (suc n) ≡ last_with g h (suc n)
    go true q ih = let z : g n ≡ h = eqb-true (g n) h q in last_here f h n (e n (omega arith) ∙ z) ∙ sym (last_here g h n z)
    go false q ih =
        let d : g n ≡ h → ⊥ = eqb-false (g n) h q in
        last_before f h n (λ z. d (sym (e n (omega arith)) ∙ z)) ∙ ih ∙ sym (last_before g h n d)
