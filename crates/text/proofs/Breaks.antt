-- Laws of a text's bytes 10: of its parts, and of the line that a place stands on. Assumes nothing.
use mathlib.Core.Path.{◌≡◌, refl, ap, ◌∙◌}
use mathlib.Core.Bool.{Bool, true, false}
use mathlib.Core.List.{[], ◌∷◌, ◌++◌}
use Prim.Native.Nat.{ℕ, zero, suc, ◌+◌, ◌≤◌, ◌<◌}
use native.Mathlib.Omega.{arith}
use lib.Dec.{eqb}
use lib.ListN.{length, take, drop}
use lib.Seq.{take-add}
use Rattle.rules.specs.Text.{Text}
use Rattle.text.specs.Pieces.{until}
use Rattle.text.specs.Breaks.{breaks, line_number}
use Rattle.text.proofs.Until.{until_here, until_later}

-- ---- the clauses, by the test
module _ (b : ℕ) (s : Text) where
  pub breaks_here : eqb 10 b ≡ true → breaks (b ∷ s) ≡ suc (breaks s)
  unfolding breaks
  breaks_here e = rw (e, breaks)

  pub breaks_later : eqb 10 b ≡ false → breaks (b ∷ s) ≡ breaks s
  unfolding breaks
  breaks_later e = rw (e, breaks)

breaks_append : (s t : Text) → breaks (s ++ t) ≡ breaks s + breaks t
unfolding breaks
breaks_append [] t = omega arith
breaks_append (b ∷ s) t = go (eqb 10 b) refl (breaks_append s t)
  where
    go : (y : Bool) → eqb 10 b ≡ y → breaks (s ++ t) ≡ breaks s + breaks t → breaks (b ∷ (s ++ t)) ≡ breaks (b ∷ s) + breaks t
    go true e ih = omega (arith, breaks_here b (s ++ t) e, breaks_here b s e)
    go false e ih = omega (arith, breaks_later b (s ++ t) e, breaks_later b s e)

-- ---- a line, from its start on
-- it has no byte 10 before its end
breaks_line : (t : Text) (m : ℕ) → m ≤ until (eqb 10) t → breaks (take m t) ≡ 0
unfolding breaks until
breaks_line [] zero h = refl
breaks_line [] (suc m) h = absurd (omega arith)
breaks_line (b ∷ t) zero h = refl
breaks_line (b ∷ t) (suc m) h = go (eqb 10 b) refl (breaks_line t m)
  where
    go : (y : Bool) → eqb 10 b ≡ y → (m ≤ until (eqb 10) t → breaks (take m t) ≡ 0) → breaks (b ∷ take m t) ≡ 0
    go true e ih = absurd (omega (arith, until_here (eqb 10) b t e))
    go false e ih = breaks_later b (take m t) e ∙ ih (omega (arith, until_later (eqb 10) b t e))

-- and one there, if the text goes on
breaks_end : (t : Text) → until (eqb 10) t < length t → breaks (take (suc (until (eqb 10) t)) t) ≡ 1
unfolding breaks until
breaks_end [] h = absurd (omega arith)
breaks_end (b ∷ t) h = go (eqb 10 b) refl (breaks_end t)
  where
    go : (y : Bool) → eqb 10 b ≡ y → (until (eqb 10) t < length t → breaks (take (suc (until (eqb 10) t)) t) ≡ 1)
        → breaks (b ∷ take (until (eqb 10) (b ∷ t)) t) ≡ 1
    go true e ih = rw (until_here (eqb 10) b t e) (breaks_here b [] e)
    go false e ih = let u = until_later (eqb 10) b t e in rw u (breaks_later b (take (suc (until (eqb 10) t)) t) e ∙ ih (omega arith))

-- ---- the number of a line
module _ (s : Text) (i : ℕ) where
  -- m bytes on
  pub number_on : (m : ℕ) → line_number s (i + m) ≡ line_number s i + breaks (take m (drop i s))
  number_on m = rw (take-add i m s) (ap suc (breaks_append (take i s) (take m (drop i s))) ∙ omega arith)

  -- on the same line, and at the start of the next
  pub number_same : (m : ℕ) → m ≤ until (eqb 10) (drop i s) → line_number s (i + m) ≡ line_number s i
  number_same m h = omega (arith, number_on m, breaks_line (drop i s) m h)

  pub number_next : until (eqb 10) (drop i s) < length (drop i s) → line_number s (suc (i + until (eqb 10) (drop i s))) ≡ suc (line_number s i)
  number_next h =
      let n : i + suc (until (eqb 10) (drop i s)) ≡ suc (i + until (eqb 10) (drop i s)) = omega arith in
      rw (← n) (omega (arith, number_on (suc (until (eqb 10) (drop i s))), breaks_end (drop i s) h))
