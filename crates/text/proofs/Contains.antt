-- Laws of "contains", and what the loop of `contains_upper` keeps. Assumes nothing.
use mathlib.Core.Path.{◌≡◌, refl, sym, ◌∙◌}
use mathlib.Core.Bool.{Bool, true, false, false≢true}
use mathlib.Core.List.{[], ◌∷◌}
use Prim.Native.Nat.{ℕ, zero, suc, ◌+◌, ◌-◌, ◌≤◌, ◌<◌}
use native.Mathlib.Omega.{arith}
use borrow.Author.Tests.{ne_eqb}
use lib.Dec.{eqb}
use lib.ListN.{length, take, drop, get_or, length-drop}
use lib.Seq.{drop-cons}
use Rattle.rules.specs.Text.{Text, upper, uppers, starts, contains}
use Rattle.std.specs.Bool.{MatchBool}
use Rattle.std.specs.List.{range_with_len, AllWithin, HoldsAt}
use Rattle.text.proofs.Kept.{rest_is}
use Rattle.text.proofs.Ranges.{any_range}
use Rattle.text.proofs.Compare.{length_uppers, starts_short, starts_unequal}

-- ---- the clauses, by the test
pub contains_here : (p : Text) (b : ℕ) (t : Text) → starts p (b ∷ t) ≡ true → contains p (b ∷ t) ≡ true
unfolding contains
contains_here p b t e = rw (e, contains)

pub contains_later : (p : Text) (b : ℕ) (t : Text) → starts p (b ∷ t) ≡ false → contains p (b ∷ t) ≡ contains p t
unfolding contains
contains_later p b t e = rw (e, contains)

pub contains_empty : (p t : Text) → length p ≡ 0 → true ≡ contains p t
unfolding contains starts
contains_empty [] [] z = refl
contains_empty [] (b ∷ t) z = refl
contains_empty (a ∷ p) t z = absurd (omega arith)

pub contains_short : (p t : Text) → length t < length p → contains p t ≡ false
unfolding contains
contains_short p [] h = starts_short p [] h
contains_short p (b ∷ t) h = contains_later p b t (starts_short p (b ∷ t) h) ∙ contains_short p t (omega arith)

pub contains_none : (p t : Text) → length t < length p → false ≡ contains p (uppers t)
contains_none p t h = sym (contains_short p (uppers t) (rw (length_uppers t) h))

-- ---- at one place
module _ (p t : Text) (at : ℕ) (h : at < length t) where
  uppers_here : uppers (drop at t) ≡ upper (get_or t at 0) ∷ uppers (drop (suc at) t)
  unfolding uppers
  uppers_here = rw (drop-cons t at 0 h)

  -- as `stands_at` compares
  pub stands : {y : Bool} → y ≡ starts p (uppers (take (length t - at) (drop at t))) → y ≡ starts p (uppers (drop at t))
  stands e = rw (rest_is t at) at e

  pub stands_not : 0 < length p → {u : ℕ} → u ≡ upper (get_or t at 0) → (u ≡ get_or p 0 0 → ⊥) → eqb u (get_or p 0 0) ≡ starts p (uppers (drop at t))
  stands_not l {u} q d =
      let other : eqb (get_or p 0 0) u ≡ false = ne_eqb (get_or p 0 0) u (λ e. d (sym e)) in
      let s : starts p (u ∷ uppers (drop (suc at) t)) ≡ false = rw (← drop-cons p 0 0 l) at (starts_unequal (get_or p 0 0) (drop 1 p) u (uppers (drop (suc at) t)) other) in
      ne_eqb u (get_or p 0 0) d ∙ sym (rw (uppers_here, ← q) s)

  contains_there : starts p (uppers (drop at t)) ≡ true → true ≡ contains p (uppers (drop at t))
  contains_there e = rw uppers_here (sym (contains_here p (upper (get_or t at 0)) (uppers (drop (suc at) t)) (rw uppers_here at e)))

  contains_past : starts p (uppers (drop at t)) ≡ false → contains p (uppers (drop at t)) ≡ contains p (uppers (drop (suc at) t))
  contains_past e = rw uppers_here (contains_later p (upper (get_or t at 0)) (uppers (drop (suc at) t)) (rw uppers_here at e))

-- ---- as `any` says it over the places
contains_at : (r : Bool) (p t : Text) (n at : ℕ) → 0 < length p → at + n + length p ≡ length t + 1
    → MatchBool r ((i : ℕ) × (i < n) × (starts p (uppers (drop (at + i) t)) ≡ true)) ((i : ℕ) → i < n → starts p (uppers (drop (at + i) t)) ≡ false)
    → r ≡ contains p (uppers (drop at t))
contains_at true p t zero at l e (i, k, d) = absurd (omega arith)
contains_at false p t zero at l e h = contains_none p (drop at t) (rw (length-drop at t) (omega arith))
contains_at true p t (suc n) at l e (i, k, d) = go (starts p (uppers (drop at t))) i refl k d (λ j m f. contains_at true p t n (suc at) l (omega arith) (j, m, f))
  where
    go : (y : Bool) (j : ℕ) → starts p (uppers (drop at t)) ≡ y → j < suc n → starts p (uppers (drop (at + j) t)) ≡ true
        → ((j : ℕ) → j < n → starts p (uppers (drop (suc at + j) t)) ≡ true → true ≡ contains p (uppers (drop (suc at) t))) → true ≡ contains p (uppers (drop at t))
    go true j q m f ih = contains_there p t at (omega arith) q
    go false zero q m f ih = let z : at + 0 ≡ at = omega arith in absurd (false≢true (sym q ∙ rw z at f))
    go false (suc j) q m f ih = let z : suc at + j ≡ at + suc j = omega arith in ih j (omega arith) (rw z f) ∙ sym (contains_past p t at (omega arith) q)
contains_at false p t (suc n) at l e h =
    let z : at + 0 ≡ at = omega arith in
    let q : starts p (uppers (drop at t)) ≡ false = rw z at (h 0 (omega arith)) in
    contains_at false p t n (suc at) l (omega arith) (λ j m. let y : suc at + j ≡ at + suc j = omega arith in rw y (h (suc j) (omega arith))) ∙ sym (contains_past p t at (omega arith) q)

pub contains_by : (r : Bool) (p t : Text) → (length p ≡ 0 → ⊥) → length p ≤ length t
    → MatchBool r ((k : ℕ) × (k < length (range_with_len 0 (length t - length p + 1))) × HoldsAt (λ i. starts p (uppers (drop i t)) ≡ true) (range_with_len 0 (length t - length p + 1)) k)
    (AllWithin (λ i. starts p (uppers (drop i t)) ≡ false) (range_with_len 0 (length t - length p + 1)) 0 (length (range_with_len 0 (length t - length p + 1))))
    → r ≡ contains p (uppers t)
contains_by r p t d l h =
    contains_at r p t (length t - length p + 1) 0 (omega arith) (omega arith)
    (any_range r (λ i. starts p (uppers (drop i t)) ≡ true) (λ i. starts p (uppers (drop i t)) ≡ false) 0 (length t - length p + 1) h)
