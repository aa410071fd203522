-- Laws of comparing: equal length makes "same" of "starts", and what the loops over two texts keep. Assumes nothing.
use mathlib.Core.Path.{◌≡◌, refl, sym, ap, ◌∙◌}
use mathlib.Core.Bool.{Bool, true, false}
use mathlib.Core.List.{[], ◌∷◌}
use Prim.Native.Nat.{ℕ, zero, suc, ◌+◌, ◌≤◌, ◌<◌}
use native.Mathlib.Omega.{arith}
use borrow.Author.Tests.{eq-eqb, ne_eqb, eqb-true, eqb-false}
use lib.Dec.{eqb}
use lib.ListN.{length, drop, get_or}
use Rattle.std.specs.List.{starts_with, range_with_len, AllWithin, HoldsAt}
use Rattle.std.specs.Bool.{MatchBool}
use Rattle.rules.specs.Text.{Text, upper, uppers, same, starts}
use Rattle.text.proofs.Ranges.{over_range}

pub eqb_sym : (a b : ℕ) → eqb a b ≡ eqb b a
eqb_sym a b = go (eqb a b) refl
  where
    go : (y : Bool) → eqb a b ≡ y → eqb a b ≡ eqb b a
    go true e = e ∙ sym (eq-eqb b a (sym (eqb-true a b e)))
    go false e = e ∙ sym (ne_eqb b a (λ d. eqb-false a b e (sym d)))

-- ---- upper case, byte by byte
pub length_uppers : (t : Text) → length (uppers t) ≡ length t
unfolding uppers
length_uppers [] = refl
length_uppers (b ∷ t) = ap suc (length_uppers t)

pub get_d_uppers : (t : Text) (i : ℕ) → get_or (uppers t) i 0 ≡ upper (get_or t i 0)
unfolding uppers upper
get_d_uppers [] i = refl
get_d_uppers (b ∷ t) zero = refl
get_d_uppers (b ∷ t) (suc i) = get_d_uppers t i

pub drop_uppers : (i : ℕ) (t : Text) → drop i (uppers t) ≡ uppers (drop i t)
unfolding uppers
drop_uppers zero t = refl
drop_uppers (suc i) [] = refl
drop_uppers (suc i) (b ∷ t) = drop_uppers i t

-- ---- the clauses, by the test
module _ (a : ℕ) (p : Text) (b : ℕ) (t : Text) where
  pub starts_equal : eqb a b ≡ true → starts (a ∷ p) (b ∷ t) ≡ starts p t
  unfolding starts
  starts_equal e = rw (e, starts)

  pub starts_unequal : eqb a b ≡ false → starts (a ∷ p) (b ∷ t) ≡ false
  unfolding starts
  starts_unequal e = rw (e, starts)

  same_equal : eqb a b ≡ true → same (a ∷ p) (b ∷ t) ≡ same p t
  unfolding same
  same_equal e = rw (e, same)

  same_unequal : eqb a b ≡ false → same (a ∷ p) (b ∷ t) ≡ false
  unfolding same
  same_unequal e = rw (e, same)

pub starts_short : (p t : Text) → length t < length p → starts p t ≡ false
unfolding starts
starts_short [] t h = absurd (omega arith)
starts_short (a ∷ p) [] h = refl
starts_short (a ∷ p) (b ∷ t) h = go (eqb a b) refl (starts_short p t (omega arith))
  where
    go : (y : Bool) → eqb a b ≡ y → starts p t ≡ false → starts (a ∷ p) (b ∷ t) ≡ false
    go true e ih = starts_equal a p b t e ∙ ih
    go false e ih = starts_unequal a p b t e

-- as `starts_with` of a slice says it
pub starts_slice : (p t : Text) → starts_with eqb t p ≡ starts p t
unfolding starts
starts_slice [] t = refl
starts_slice (a ∷ p) [] = refl
starts_slice (a ∷ p) (b ∷ t) = go (eqb a b) refl (starts_slice p t)
  where
    go : (y : Bool) → eqb a b ≡ y → starts_with eqb t p ≡ starts p t → starts_with eqb (b ∷ t) (a ∷ p) ≡ starts (a ∷ p) (b ∷ t)
    go true e ih = rw e (ih ∙ sym (starts_equal a p b t e))
    go false e ih = rw e (sym (starts_unequal a p b t e))

pub same_longer : (s t : Text) → (length s ≡ length t → ⊥) → same s t ≡ false
unfolding same
same_longer [] [] d = absurd (d refl)
same_longer [] (b ∷ t) d = refl
same_longer (a ∷ s) [] d = refl
same_longer (a ∷ s) (b ∷ t) d = go (eqb a b) refl (same_longer s t (λ e. d (ap suc e)))
  where
    go : (y : Bool) → eqb a b ≡ y → same s t ≡ false → same (a ∷ s) (b ∷ t) ≡ false
    go true e ih = same_equal a s b t e ∙ ih
    go false e ih = same_unequal a s b t e

-- texts of one length are the same where one starts with the other
pub same_starts : (s t : Text) → length s ≡ length t → same s t ≡ starts t s
unfolding same starts
same_starts [] [] l = refl
same_starts [] (b ∷ t) l = absurd (omega arith)
same_starts (a ∷ s) [] l = absurd (omega arith)
same_starts (a ∷ s) (b ∷ t) l = go (eqb a b) refl (same_starts s t (omega arith))
  where
    go : (y : Bool) → eqb a b ≡ y → same s t ≡ starts t s → same (a ∷ s) (b ∷ t) ≡ starts (b ∷ t) (a ∷ s)
    go true e ih = same_equal a s b t e ∙ ih ∙ sym (starts_equal b t a s (eqb_sym b a ∙ e))
    go false e ih = same_unequal a s b t e ∙ sym (starts_unequal b t a s (eqb_sym b a ∙ e))

-- the same bytes are the same text
pub same_is : (s t : Text) → same s t ≡ true → s ≡ t
unfolding same
same_is [] [] e = refl
same_is [] (b ∷ t) e = let z : ◌≡◌ {A = ℕ} 0 1 = cc in absurd (omega arith)
same_is (a ∷ s) [] e = let z : ◌≡◌ {A = ℕ} 0 1 = cc in absurd (omega arith)
same_is (a ∷ s) (b ∷ t) e = go (eqb a b) refl (same_is s t)
  where
    go : (y : Bool) → eqb a b ≡ y → (same s t ≡ true → s ≡ t) → a ∷ s ≡ b ∷ t
    go true q ih = rw (eqb-true a b q, ih (sym (same_equal a s b t q) ∙ e))
    go false q ih = let f : true ≡ false = sym e ∙ same_unequal a s b t q in let z : ◌≡◌ {A = ℕ} 0 1 = cc in absurd (omega arith)

pub same_self : (t : Text) → same t t ≡ true
unfolding same
same_self [] = refl
same_self (b ∷ t) = same_equal b t b t (eq-eqb b b refl) ∙ same_self t

-- a text in upper case, by the text
pub uppers_short : (p t : Text) → length t < length p → starts p (uppers t) ≡ false
uppers_short p t h = starts_short p (uppers t) (rw (length_uppers t) h)

-- ---- as `all` says it over the places
starts_by : (r : Bool) (p m : Text) → length p ≤ length m
    → MatchBool r ((i : ℕ) → i < length p → get_or m i 0 ≡ get_or p i 0) ((i : ℕ) × (i < length p) × (get_or m i 0 ≡ get_or p i 0 → ⊥))
    → r ≡ starts p m
unfolding starts
starts_by true [] m l h = refl
starts_by false [] m l (i, k, d) = absurd (omega arith)
starts_by r (a ∷ p) [] l h = absurd (omega arith)
starts_by true (a ∷ p) (b ∷ m) l h =
    let e : b ≡ a = h 0 (omega arith) in
    starts_by true p m (omega arith) (λ i k. h (suc i) (omega arith)) ∙ sym (starts_equal a p b m (eq-eqb a b (sym e)))
starts_by false (a ∷ p) (b ∷ m) l (zero, k, d) = sym (starts_unequal a p b m (ne_eqb a b (λ e. d (sym e))))
starts_by false (a ∷ p) (b ∷ m) l (suc i, k, d) = go (eqb a b) refl (starts_by false p m (omega arith) (i, omega arith, d))
  where
    go : (y : Bool) → eqb a b ≡ y → false ≡ starts p m → false ≡ starts (a ∷ p) (b ∷ m)
    go true e ih = ih ∙ sym (starts_equal a p b m e)
    go false e ih = sym (starts_unequal a p b m e)

pub starts_upper_by : (r : Bool) (p t : Text) → length p ≤ length t
    → MatchBool r (AllWithin (λ i. upper (get_or t i 0) ≡ get_or p i 0) (range_with_len 0 (length p)) 0 (length (range_with_len 0 (length p))))
    ((k : ℕ) × (k < length (range_with_len 0 (length p))) × HoldsAt (λ i. upper (get_or t i 0) ≡ get_or p i 0 → ⊥) (range_with_len 0 (length p)) k)
    → r ≡ starts p (uppers t)
starts_upper_by r p t l h =
    starts_by r p (uppers t) (rw (length_uppers t) l)
    (go r (over_range r (λ i. upper (get_or t i 0) ≡ get_or p i 0) (λ i. upper (get_or t i 0) ≡ get_or p i 0 → ⊥) 0 (length p) h))
  where
    go : (y : Bool) → MatchBool y ((i : ℕ) → i < length p → upper (get_or t (0 + i) 0) ≡ get_or p (0 + i) 0) ((i : ℕ) × (i < length p) × (upper (get_or t (0 + i) 0) ≡ get_or p (0 + i) 0 → ⊥))
        → MatchBool y ((i : ℕ) → i < length p → get_or (uppers t) i 0 ≡ get_or p i 0) ((i : ℕ) × (i < length p) × (get_or (uppers t) i 0 ≡ get_or p i 0 → ⊥))
    go true f = λ i k. let z : 0 + i ≡ i = omega arith in get_d_uppers t i ∙ rw z at (f i k)
    go false (i, k, d) = let z : 0 + i ≡ i = omega arith in (i, k, λ e. (rw z at d) (sym (get_d_uppers t i) ∙ e))
