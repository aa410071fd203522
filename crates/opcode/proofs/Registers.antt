-- Registers as operands: a digit, a letter before it, brackets around both; each text by its length and its bytes. Assumes nothing.
use Rattle.std.specs.Prelude.{Option, None, Some}
use mathlib.Core.Path.{◌≡◌, refl, sym, ap, ◌∙◌}
use mathlib.Core.Bool.{Bool, true, false, cond}
use mathlib.Core.List.{[], ◌∷◌}
use Prim.Native.Nat.{ℕ, zero, suc, ◌+◌, ◌≤◌, ◌<◌}
use native.Mathlib.Omega.{arith}
use borrow.Author.Tests.{eq-eqb, ne_eqb, lt-ltb, le-ltb}
use lib.ListN.{length, drop, get_or, drop_of_length-le}
use lib.Dec.{eqb}
use lib.Seq.{drop-cons}
use Rattle.rules.specs.Text.{Text, bytes, after}
use Rattle.rules.specs.Number.{digit_value}
use Rattle.rules.specs.Encode.{register_digit, closed, indirect}

-- ---- digits: a byte whose digit value is d
module _ (b d : ℕ) (e : d ≡ digit_value b) where
  pub digit : d < 8 → register_digit (Some (b ∷ [])) ≡ Some d
  unfolding register_digit
  digit h = rw (← e, lt-ltb d 8 h)

  pub no_digit : 8 ≤ d → register_digit (Some (b ∷ [])) ≡ None
  unfolding register_digit
  no_digit h = rw (← e, le-ltb d 8 h)

-- ---- texts by their bytes
-- the k bytes from the i-th on
abbrev places : ℕ → ℕ → Text → Text
places zero i t = []
places (suc k) i t = get_or t i 0 ∷ places k (suc i) t

-- a text of i + k bytes, from the i-th on
listed : (k i : ℕ) (t : Text) → length t ≡ i + k → drop i t ≡ places k i t
listed zero i t e = let h : length t ≤ i = omega arith in drop_of_length-le t h
listed (suc k) i t e = drop-cons t i 0 (omega arith) ∙ ap (λ (s : Text). get_or t i 0 ∷ s) (listed k (suc i) t (omega arith))

-- f reads what follows p: it reads none where it reads none of every text that is as long
unread :
    (f : Option Text → Option ℕ) → f None ≡ None → (p t : Text) → ((u : Text) → length t ≡ length p + length u → f (Some u) ≡ None)
    → f (after p t) ≡ None
unfolding after
unread f z [] t h = h t (omega arith)
unread f z (a ∷ p) [] h = z
unread f z (a ∷ p) (b ∷ t) h = go (eqb a b) (unread f z p t (λ u e. h u (omega arith)))
  where
    go : (q : Bool) → f (after p t) ≡ None → f (elim q [ true ↦ after p t | false ↦ None ]) ≡ None
    go true e = e
    go false e = z

-- ---- a letter and a digit
not_one : (u : Text) → (length u ≡ 1 → ⊥) → register_digit (Some u) ≡ None
unfolding register_digit
not_one [] d = refl
not_one (b ∷ []) d = absurd (d refl)
not_one (b ∷ c ∷ u) d = refl

module _ (l : ℕ) (t : Text) where
  pub not_two : (length t ≡ 2 → ⊥) → register_digit (after (l ∷ []) t) ≡ None
  unfolding register_digit
  not_two d = unread register_digit refl (l ∷ []) t (λ u e. not_one u (λ g. d (omega arith)))

  pub other_letter : length t ≡ 2 → (get_or t 0 0 ≡ l → ⊥) → register_digit (after (l ∷ []) t) ≡ None
  unfolding register_digit after
  other_letter e d = rw (listed 2 0 t e, after, ne_eqb l (get_or t 0 0) (λ g. d (sym g)))

  pub letter_first : length t ≡ 2 → get_or t 0 0 ≡ l → register_digit (after (l ∷ []) t) ≡ register_digit (Some (get_or t 1 0 ∷ []))
  unfolding after
  letter_first e h = rw (listed 2 0 t e, after, eq-eqb l (get_or t 0 0) (sym h))

-- ---- (An)
not_closed : (u : Text) → (length u ≡ 2 → ⊥) → closed (Some u) ≡ None
unfolding closed
not_closed [] d = refl
not_closed (b ∷ []) d = refl
not_closed (b ∷ c ∷ []) d = absurd (d refl)
not_closed (b ∷ c ∷ e ∷ u) d = refl

module _ (t : Text) where
  pub not_four : (length t ≡ 4 → ⊥) → indirect t ≡ None
  unfolding indirect closed bytes
  not_four d = unread closed refl (bytes "(A") t (λ u e. not_closed u (λ g. d (omega arith)))

  module _ (e : length t ≡ 4) where
    pub other_open : (get_or t 0 0 ≡ 40 → ⊥) → indirect t ≡ None
    unfolding indirect closed after bytes
    other_open d = rw (listed 4 0 t e, ne_eqb 40 (get_or t 0 0) (λ g. d (sym g)))

    module _ (o : get_or t 0 0 ≡ 40) where
      pub other_inner : (get_or t 1 0 ≡ 65 → ⊥) → indirect t ≡ None
      unfolding indirect closed after bytes
      other_inner d = rw (listed 4 0 t e, eq-eqb 40 (get_or t 0 0) (sym o), ne_eqb 65 (get_or t 1 0) (λ g. d (sym g)))

      module _ (a : get_or t 1 0 ≡ 65) where
        by_close : indirect t ≡ cond (eqb (get_or t 3 0) 41) (register_digit (Some (get_or t 2 0 ∷ []))) None
        unfolding indirect closed after bytes
        by_close = rw (listed 4 0 t e, eq-eqb 40 (get_or t 0 0) (sym o), eq-eqb 65 (get_or t 1 0) (sym a))

        pub other_close : (get_or t 3 0 ≡ 41 → ⊥) → indirect t ≡ None
        other_close d = rw (ne_eqb (get_or t 3 0) 41 d) at by_close

        pub digit_inside : get_or t 3 0 ≡ 41 → indirect t ≡ register_digit (Some (get_or t 2 0 ∷ []))
        digit_inside h = rw (eq-eqb (get_or t 3 0) 41 h) at by_close
