-- Laws of the definitions of sums: what is left is no longer than the text, and so a chain needs no count. Assumes nothing.
use Prim.Native.Nat.{ℕ, zero, suc, ◌≤◌}
use mathlib.Core.Path.{◌≡◌, refl}
use mathlib.Core.Bool.{Bool, true, false, cond}
use mathlib.Core.List.{[], ◌∷◌}
use native.Mathlib.Nat.{le_refl}
use native.Mathlib.Omega.{arith}
use lib.Dec.{eqb}
use lib.ListN.{length, drop, length-drop}
use Rattle.rules.specs.Text.{Text, cut_where, first_text}
use Rattle.rules.specs.Number.{Reading, read, failed}
use Rattle.rules.specs.Sum.{Expression, group, Parse, malformed, parsed, and_parse, applied, chain_by, chain, series, is_times, is_sign, is_operator, plain_number, as_number, number_first, paren_closed, atom_of}

-- at most n bytes are left
abbrev pub Left : ℕ → Parse → Type 0
Left n malformed = Unit
Left n (parsed a r) = length r ≤ n

abbrev pub Shrinks : (Text → Parse) → Type 0
Shrinks item = (s : Text) → Left (length s) (item s)

and_left : (n m : ℕ) (x : Parse) (f : Expression → Text → Parse) → Left n x
    → ((a : Expression) (r : Text) → length r ≤ n → Left m (f a r)) → Left m (and_parse x f)
unfolding and_parse
and_left n m malformed f l h = tt
and_left n m (parsed a r) f l h = h a r l

and_same : (n : ℕ) (x : Parse) (f g : Expression → Text → Parse) → Left n x
    → ((a : Expression) (r : Text) → length r ≤ n → f a r ≡ g a r) → and_parse x f ≡ and_parse x g
unfolding and_parse
and_same n malformed f g l h = refl
and_same n (parsed a r) f g l h = h a r l

left_more : (n m : ℕ) (x : Parse) → n ≤ m → Left n x → Left m x
left_more n m malformed h l = tt
left_more n m (parsed a r) h l = omega arith

module _ (f : ℕ → Bool) (item : Text → Parse) where
  -- ---- the clauses of a chain, by the test; with the count, then without
  module _ (k : ℕ) (a : Expression) (c : ℕ) (s : Text) where
    pub by_more : f c ≡ true → chain_by f item (suc k) a (c ∷ s) ≡ and_parse (item s) (λ b r. chain_by f item k (applied c a b) r)
    unfolding chain_by
    by_more e = rw (e, chain_by)

    pub by_stop : f c ≡ false → chain_by f item (suc k) a (c ∷ s) ≡ parsed a (c ∷ s)
    unfolding chain_by
    by_stop e = rw (e, chain_by)

  pub chain_end : (a : Expression) → chain f item a [] ≡ parsed a []
  unfolding chain chain_by
  chain_end a = refl

  pub chain_stop : (a : Expression) (c : ℕ) (s : Text) → f c ≡ false → chain f item a (c ∷ s) ≡ parsed a (c ∷ s)
  unfolding chain
  chain_stop a c s e = by_stop (length s) a c s e

  module _ (shrinks : Shrinks item) where
    by_left : (k : ℕ) (a : Expression) (s : Text) → Left (length s) (chain_by f item k a s)
    unfolding chain_by
    by_left zero a s = le_refl (length s)
    by_left (suc k) a [] = omega arith
    by_left (suc k) a (c ∷ s) = go (f c) refl (λ b r. by_left k (applied c a b) r)
      where
        go : (y : Bool) → f c ≡ y → ((b : Expression) (r : Text) → Left (length r) (chain_by f item k (applied c a b) r))
            → Left (suc (length s)) (chain_by f item (suc k) a (c ∷ s))
        go true e ih = rw (by_more k a c s e) (and_left (length s) (suc (length s)) (item s) (λ b r. chain_by f item k (applied c a b) r) (shrinks s)
            (λ b r h. left_more (length r) (suc (length s)) (chain_by f item k (applied c a b) r) (omega arith) (ih b r)))
        go false e ih = rw (by_stop k a c s e) (omega arith)

    pub listed_shrinks : Shrinks (series f item)
    unfolding series chain
    listed_shrinks s = and_left (length s) (length s) (item s) (λ a r. chain_by f item (length r) a r) (shrinks s)
        (λ a r h. left_more (length r) (length s) (chain_by f item (length r) a r) h (by_left (length r) a r))

    -- two counts, each enough, agree
    enough : (k j : ℕ) (a : Expression) (s : Text) → length s ≤ k → length s ≤ j → chain_by f item k a s ≡ chain_by f item j a s
    unfolding chain_by
    enough zero zero a s h l = refl
    enough zero (suc j) a [] h l = refl
    enough zero (suc j) a (c ∷ s) h l = absurd (omega arith)
    enough (suc k) zero a [] h l = refl
    enough (suc k) zero a (c ∷ s) h l = absurd (omega arith)
    enough (suc k) (suc j) a [] h l = refl
    enough (suc k) (suc j) a (c ∷ s) h l = go (f c) refl (λ b r p. enough k j (applied c a b) r (omega arith) (omega arith))
      where
        go : (y : Bool) → f c ≡ y
            → ((b : Expression) (r : Text) → length r ≤ length s → chain_by f item k (applied c a b) r ≡ chain_by f item j (applied c a b) r)
            → chain_by f item (suc k) a (c ∷ s) ≡ chain_by f item (suc j) a (c ∷ s)
        go true e ih = rw (by_more k a c s e, by_more j a c s e) (and_same (length s) (item s) _ _ (shrinks s) ih)
        go false e ih = rw (by_stop k a c s e, by_stop j a c s e)

    pub chain_more : (a : Expression) (c : ℕ) (s : Text) → f c ≡ true
        → chain f item a (c ∷ s) ≡ and_parse (item s) (λ b r. chain f item (applied c a b) r)
    unfolding chain
    chain_more a c s e = rw (by_more (length s) a c s e) (and_same (length s) (item s) _ _ (shrinks s)
        (λ b r h. enough (length s) (length r) (applied c a b) r h (le_refl (length r))))

-- ---- numbers, atoms and products
left_cond : (n : ℕ) (y : Bool) (p q : Parse) → Left n p → Left n q → Left n (cond y p q)
left_cond n true p q l m = l
left_cond n false p q l m = m

closed_left : (n m : ℕ) (x : Parse) → n ≤ m → Left n x → Left m (paren_closed x)
unfolding paren_closed
closed_left n m malformed h l = tt
closed_left n m (parsed a []) h l = tt
closed_left n m (parsed a (c ∷ r)) h l = left_cond m (eqb c 41) (parsed (group a) r) malformed (omega arith) tt

numbered_left : (n : ℕ) (x : Reading ℕ) (r : Text) → length r ≤ n → Left n (as_number x r)
unfolding as_number
numbered_left n (failed x) r h = tt
numbered_left n (read v) r h = h

number_shrinks : Shrinks number_first
unfolding number_first
number_shrinks s =
    let n = first_text (cut_where is_operator s) in
    numbered_left (length s) (plain_number n) (drop (length n) s) (simp length-drop (omega arith))

pub atom_shrinks : (d : ℕ) → Shrinks (atom_of d)
unfolding atom_of
atom_shrinks zero [] = tt
atom_shrinks zero (b ∷ s) = left_cond (suc (length s)) (eqb b 40) malformed (number_first (b ∷ s)) tt (number_shrinks (b ∷ s))
atom_shrinks (suc d) [] = tt
atom_shrinks (suc d) (b ∷ s) =
    left_cond (suc (length s)) (eqb b 40) (paren_closed (series is_sign (series is_times (atom_of d)) s)) (number_first (b ∷ s))
    (closed_left (length s) (suc (length s)) (series is_sign (series is_times (atom_of d)) s) (omega arith)
    (listed_shrinks is_sign (series is_times (atom_of d)) (listed_shrinks is_times (atom_of d) (atom_shrinks d)) s))
    (number_shrinks (b ∷ s))

pub product_shrinks : (d : ℕ) → Shrinks (series is_times (atom_of d))
product_shrinks d = listed_shrinks is_times (atom_of d) (atom_shrinks d)
