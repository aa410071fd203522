-- The scan of the marks finds the lowest one that refusal 10 names. Assumes nothing.
use Rattle.std.specs.Prelude.{Option, None, Some}
use Prim.Native.Nat.{ℕ, zero, suc, ◌<◌, ◌≤◌}
use mathlib.Core.Path.{◌≡◌, refl, sym, ◌∙◌}
use mathlib.Core.Logic.{◌≢◌}
use mathlib.Core.Bool.{Bool, true, false, ◌&&◌, ◌||◌, not, cond, false≢true}
use mathlib.Core.List.{List, [], ◌∷◌}
use native.Mathlib.Omega.{arith}
use borrow.Author.Tests.{ltb-true, lt-ltb, eqb-true, eqb-false, ne_eqb}
use lib.ListN.{length, get_or}
use lib.Dec.{ltb, eqb, leb-suc-suc}
use Rattle.rules.specs.Relocate.{first_in, bad_mark, first_bad_mark}
use Rattle.promises.specs.Refusals.{BadMark, over_3, high_alone, low_alone}
use Rattle.promises.proofs.Compared.{clash}
use Rattle.promises.proofs.RefusalsSearch.{Found, found, nowhere, later, goes_on}

-- a scan counted from one more
shift : (b i n : ℕ) (ms : List ℕ) → first_bad_mark b (suc i) n ms ≡ later (first_bad_mark b i n ms)
unfolding first_bad_mark later
shift b i zero ms = refl
shift b i (suc n) [] = refl
shift b i (suc n) (m ∷ ms) = go (bad_mark b m (first_in n ms)) refl (shift m (suc i) n ms)
  where
    go : (y : Bool) → bad_mark b m (first_in n ms) ≡ y → first_bad_mark m (suc (suc i)) n ms ≡ later (first_bad_mark m (suc i) n ms)
        → first_bad_mark b (suc i) (suc n) (m ∷ ms) ≡ later (first_bad_mark b i (suc n) (m ∷ ms))
    go true e h = rw (e, first_bad_mark)
    go false e h = rw (e, first_bad_mark) h

-- the test at an index, of the marks around it
abbrev around : ℕ → ℕ → List ℕ → ℕ → Bool
around b n ms i = bad_mark (get_or (b ∷ ms) i 0) (get_or ms i 0) (cond (ltb (suc i) n) (get_or ms (suc i) 0) 0)

-- the next mark, by index
first_cond : (n : ℕ) (ms : List ℕ) → n ≤ length ms → first_in n ms ≡ cond (ltb 0 n) (get_or ms 0 0) 0
unfolding first_in
first_cond zero ms h = refl
first_cond (suc n) [] h = absurd (omega arith)
first_cond (suc n) (m ∷ ms) h = rw (lt-ltb 0 (suc n) (omega arith))

-- the scan finds the lowest index at which the test passes
scan : (b n : ℕ) (ms : List ℕ) → n ≤ length ms → Found (λ i. around b n ms i ≡ true) n (first_bad_mark b 0 n ms)
unfolding first_bad_mark
scan b zero ms h = nowhere (λ i l. absurd (omega arith))
scan b (suc n) [] h = absurd (omega arith)
scan b (suc n) (m ∷ ms) h = go (bad_mark b m (first_in n ms)) refl (scan m n ms (omega arith))
  where
    here : (y : Bool) → bad_mark b m (first_in n ms) ≡ y → around b (suc n) (m ∷ ms) 0 ≡ y
    here y e = rw (leb-suc-suc 1 n, ← first_cond n ms (omega arith)) e

    there : (i : ℕ) → around m n ms i ≡ around b (suc n) (m ∷ ms) (suc i)
    there i = rw (leb-suc-suc (suc (suc i)) n)

    moved : (o : Option ℕ) → Found (λ i. around m n ms i ≡ true) n o → Found (λ i. around b (suc n) (m ∷ ms) (suc i) ≡ true) n o
    moved (Some p) (found k) = found {p = p} (record { inside = k.inside; holds = sym (there p) ∙ k.holds; lowest = λ i l e. k.lowest i l (there i ∙ e) })
    moved None (nowhere k) = nowhere (λ i l e. k i l (there i ∙ e))

    go : (y : Bool) → bad_mark b m (first_in n ms) ≡ y → Found (λ i. around m n ms i ≡ true) n (first_bad_mark m 0 n ms)
        → Found (λ i. around b (suc n) (m ∷ ms) i ≡ true) (suc n) (first_bad_mark b 0 (suc n) (m ∷ ms))
    go true e r = rw (e, first_bad_mark) (found {p = 0} (record { inside = omega arith; holds = here true e; lowest = λ i l. absurd (omega arith) }))
    go false e r =
        rw (e, first_bad_mark, shift m 0 n ms)
        (goes_on (λ i. around b (suc n) (m ∷ ms) i ≡ true) n (first_bad_mark m 0 n ms) (λ f. false≢true (sym (here false e) ∙ f)) (moved (first_bad_mark m 0 n ms) r))

-- the marks around one that stands alone
not_next : (ms : List ℕ) (n i : ℕ) → (suc i < n → get_or ms (suc i) 0 ≢ 3) → cond (ltb (suc i) n) (get_or ms (suc i) 0) 0 ≢ 3
not_next ms n i f = go (ltb (suc i) n) refl
  where
    go : (y : Bool) → ltb (suc i) n ≡ y → cond y (get_or ms (suc i) 0) 0 ≢ 3
    go true e = f (ltb-true (suc i) n e)
    go false e = λ z. omega arith

not_before : (ms : List ℕ) (i : ℕ) → ((j : ℕ) → suc j ≡ i → get_or ms j 0 ≢ 2) → get_or (0 ∷ ms) i 0 ≢ 2
not_before ms zero f = λ z. omega arith
not_before ms (suc i) f = f i refl

-- the test decides whether the mark is bad
module _ (ms : List ℕ) (n i : ℕ) where
  before_is : (j : ℕ) → suc j ≡ i → get_or (0 ∷ ms) i 0 ≡ get_or ms j 0
  before_is j e = rw (← e)

  bad : around 0 n ms i ≡ true → BadMark ms n i
  unfolding bad_mark
  bad h = go (ltb 3 (get_or ms i 0)) (eqb (get_or ms i 0) 2) (eqb (cond (ltb (suc i) n) (get_or ms (suc i) 0) 0) 3) (eqb (get_or ms i 0) 3) (eqb (get_or (0 ∷ ms) i 0) 2) refl refl refl refl refl h
    where
      go : (a b c d e : Bool) → ltb 3 (get_or ms i 0) ≡ a → eqb (get_or ms i 0) 2 ≡ b → eqb (cond (ltb (suc i) n) (get_or ms (suc i) 0) 0) 3 ≡ c
          → eqb (get_or ms i 0) 3 ≡ d → eqb (get_or (0 ∷ ms) i 0) 2 ≡ e → (a || (b && not c) || (d && not e)) ≡ true → BadMark ms n i
      go true b c d e p q r s t u = over_3 (ltb-true 3 (get_or ms i 0) p)
      go false true false d e p q r s t u = high_alone (eqb-true (get_or ms i 0) 2 q) (λ l f. eqb-false (cond (ltb (suc i) n) (get_or ms (suc i) 0) 0) 3 r (rw (lt-ltb (suc i) n l) f))
      go false true true true false p q r s t u = low_alone (eqb-true (get_or ms i 0) 3 s) (λ j f g. eqb-false (get_or (0 ∷ ms) i 0) 2 t (before_is j f ∙ g))
      go false true true true true p q r s t u = clash cc
      go false true true false e p q r s t u = clash cc
      go false false c true false p q r s t u = low_alone (eqb-true (get_or ms i 0) 3 s) (λ j f g. eqb-false (get_or (0 ∷ ms) i 0) 2 t (before_is j f ∙ g))
      go false false c true true p q r s t u = clash cc
      go false false c false e p q r s t u = clash cc

  sound : around 0 n ms i ≡ false → ¬ BadMark ms n i
  unfolding bad_mark
  sound h (over_3 k) = let z = rw (lt-ltb 3 (get_or ms i 0) k) at h in clash cc
  sound h (high_alone e f) = let z = rw (ne_eqb (cond (ltb (suc i) n) (get_or ms (suc i) 0) 0) 3 (not_next ms n i f), e) at h in clash cc
  sound h (low_alone e f) = let z = rw (ne_eqb (get_or (0 ∷ ms) i 0) 2 (not_before ms i f), e) at h in clash cc

  decided : (y : Bool) → around 0 n ms i ≡ y → ¬ (around 0 n ms i ≡ true) → ¬ BadMark ms n i
  decided true e k = absurd (k e)
  decided false e k = sound e

-- so the scan finds the lowest bad one
pub marks_found : (ms : List ℕ) (n : ℕ) → n ≤ length ms → Found (BadMark ms n) n (first_bad_mark 0 0 n ms)
marks_found ms n h = go (first_bad_mark 0 0 n ms) (scan 0 n ms h)
  where
    go : (o : Option ℕ) → Found (λ i. around 0 n ms i ≡ true) n o → Found (BadMark ms n) n o
    go (Some p) (found k) =
        found {p = p} (record { inside = k.inside; holds = bad ms n p k.holds; lowest = λ i l. decided ms n i (around 0 n ms i) refl (k.lowest i l) })
    go None (nowhere k) = nowhere (λ i l. decided ms n i (around 0 n ms i) refl (k i l))
