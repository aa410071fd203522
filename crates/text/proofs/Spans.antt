-- Laws of parts of a text by position: a part of a part, its length, and what it contains. Assumes nothing.
use mathlib.Core.Path.{◌≡◌, refl, sym, ap, ◌∙◌}
use mathlib.Core.Bool.{Bool, true, false, false≢true}
use mathlib.Core.List.{[], ◌∷◌}
use Prim.Native.Nat.{ℕ, zero, suc, ◌+◌, ◌-◌, ◌≤◌}
use native.Mathlib.Omega.{arith}
use lib.Dec.{eqb}
use lib.ListN.{length, take, drop, length-drop}
use lib.Seq.{drop-drop, take-take, take-nil, length-take-le}
use Rattle.rules.specs.Text.{Text, upper, uppers, starts, contains}
use Rattle.text.specs.Spans.{part, PartIn}
use Rattle.text.proofs.Compare.{drop_uppers, starts_equal, starts_unequal}
use Rattle.text.proofs.Contains.{contains_here, contains_later, contains_empty}

-- ---- a part of a part
drop_take : (k n : ℕ) (t : Text) → drop k (take n t) ≡ take (n - k) (drop k t)
drop_take zero n t = let e : n - 0 ≡ n = omega arith in rw e
drop_take (suc k) zero t = let e : 0 - suc k ≡ 0 = omega arith in rw e
drop_take (suc k) (suc n) [] = sym (take-nil (suc n - suc k))
drop_take (suc k) (suc n) (b ∷ t) = let e : suc n - suc k ≡ n - k = omega arith in rw e (drop_take k n t)

module _ (t : Text) (a e : ℕ) where
  -- what stands after its first k bytes
  pub part_rest : (k : ℕ) → drop k (part t a e) ≡ part t (a + k) e
  part_rest k = let n : e - a - k ≡ e - (a + k) = omega arith in rw (drop_take k (e - a) (drop a t), drop-drop k a t, n)

  -- its first n bytes
  pub part_front : (n : ℕ) → n ≤ e - a → take n (part t a e) ≡ part t a (a + n)
  part_front n h = let m : a + n - a ≡ n = omega arith in rw (take-take n (e - a) (drop a t) h, m)

  -- a part inside it
  pub part_part : (b f : ℕ) → a ≤ b → f ≤ e → part (part t a e) (b - a) (f - a) ≡ part t b f
  part_part b f h l =
      let m : a + (b - a) ≡ b = omega arith in
      let n : f - a - (b - a) ≡ f - b = omega arith in
      rw (part_rest (b - a), m, n) (take-take (f - b) (e - b) (drop b t) (omega arith))

  pub length_part : PartIn t a e → length (part t a e) ≡ e - a
  length_part p = length-take-le (e - a) (drop a t) (rw (length-drop a t) (omega arith))

-- ---- what a part contains, the text contains
contains_after : (p : Text) (b : ℕ) (t : Text) → contains p t ≡ true → contains p (b ∷ t) ≡ true
contains_after p b t h = go (starts p (b ∷ t)) refl
  where
    go : (y : Bool) → starts p (b ∷ t) ≡ y → contains p (b ∷ t) ≡ true
    go true e = contains_here p b t e
    go false e = contains_later p b t e ∙ h

contains_drop : (p : Text) (n : ℕ) (t : Text) → contains p (drop n t) ≡ true → contains p t ≡ true
contains_drop p zero t h = h
contains_drop p (suc n) [] h = h
contains_drop p (suc n) (b ∷ t) h = contains_after p b t (contains_drop p n t h)

starts_take : (p : Text) (n : ℕ) (t : Text) → starts p (take n t) ≡ true → starts p t ≡ true
unfolding starts
starts_take [] n t h = refl
starts_take (a ∷ p) zero t h = absurd (false≢true h)
starts_take (a ∷ p) (suc n) [] h = h
starts_take (a ∷ p) (suc n) (b ∷ t) h = go (eqb a b) refl (λ k. starts_take p n t k)
  where
    go : (y : Bool) → eqb a b ≡ y → (starts p (take n t) ≡ true → starts p t ≡ true) → starts (a ∷ p) (b ∷ t) ≡ true
    go true e ih = starts_equal a p b t e ∙ ih (sym (starts_equal a p b (take n t) e) ∙ h)
    go false e ih = absurd (false≢true (sym (starts_unequal a p b (take n t) e) ∙ h))

contains_nil : (p t : Text) → contains p [] ≡ true → contains p t ≡ true
unfolding contains starts
contains_nil [] t h = sym (contains_empty [] t refl)
contains_nil (a ∷ p) t h = absurd (false≢true h)

contains_take : (p : Text) (n : ℕ) (t : Text) → contains p (take n t) ≡ true → contains p t ≡ true
contains_take p zero t h = contains_nil p t h
contains_take p (suc n) [] h = h
contains_take p (suc n) (b ∷ t) h = go (starts p (b ∷ take n t)) refl (λ k. contains_take p n t k)
  where
    go : (y : Bool) → starts p (b ∷ take n t) ≡ y → (contains p (take n t) ≡ true → contains p t ≡ true) → contains p (b ∷ t) ≡ true
    go true e ih = contains_here p b t (starts_take p (suc n) (b ∷ t) e)
    go false e ih = contains_after p b t (ih (sym (contains_later p b (take n t) e) ∙ h))

take_uppers : (n : ℕ) (t : Text) → take n (uppers t) ≡ uppers (take n t)
unfolding uppers
take_uppers zero t = refl
take_uppers (suc n) [] = refl
take_uppers (suc n) (b ∷ t) = ap (λ (s : Text). upper b ∷ s) (take_uppers n t)

-- in upper case
pub contains_part : (p t : Text) (a e : ℕ) → contains p (uppers (part t a e)) ≡ true → contains p (uppers t) ≡ true
contains_part p t a e h =
    let q : uppers (part t a e) ≡ take (e - a) (drop a (uppers t)) = sym (take_uppers (e - a) (drop a t)) ∙ ap (take (e - a)) (sym (drop_uppers a t)) in
    contains_drop p a (uppers t) (contains_take p (e - a) (drop a (uppers t)) (rw q at h))
