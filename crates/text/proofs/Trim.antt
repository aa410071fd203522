-- Laws of blanks and trimming: what is left of a text, and where it stands. Assumes nothing.
use mathlib.Core.Path.{◌≡◌, refl, sym, ap, ◌∙◌}
use mathlib.Core.Bool.{Bool, true, false, not, cond}
use mathlib.Core.List.{[], ◌∷◌, ◌++◌}
use Prim.Native.Nat.{ℕ, suc, ◌+◌, ◌≤◌}
use native.Mathlib.Omega.{arith}
use lib.ListN.{length, take, drop, length-take, length-drop}
use Rattle.rules.specs.Text.{Text, blank, leading, trim_start, keep_end, trim_end, trim}
use Rattle.text.specs.Pieces.{until, filled}
use Rattle.text.proofs.Until.{until_here, until_later, until_le}

-- ---- the clauses, by the test
module _ (b : ℕ) (s : Text) where
  module _ (e : blank b ≡ true) where
    pub leading_blank : leading (b ∷ s) ≡ suc (leading s)
    unfolding leading
    leading_blank = rw (e, leading)

    trim_start_blank : trim_start (b ∷ s) ≡ trim_start s
    unfolding trim_start
    trim_start_blank = rw (e, trim_start)

  module _ (e : blank b ≡ false) where
    pub leading_none : leading (b ∷ s) ≡ 0
    unfolding leading
    leading_none = rw (e, leading)

    trim_start_none : trim_start (b ∷ s) ≡ b ∷ s
    unfolding trim_start
    trim_start_none = rw (e, trim_start)

-- ---- the blanks in front
pub drop_leading : (t : Text) → drop (leading t) t ≡ trim_start t
unfolding leading trim_start
drop_leading [] = refl
drop_leading (b ∷ s) = go (blank b) refl (drop_leading s)
  where
    go : (y : Bool) → blank b ≡ y → drop (leading s) s ≡ trim_start s → drop (leading (b ∷ s)) (b ∷ s) ≡ trim_start (b ∷ s)
    go true e ih = rw (leading_blank b s e, trim_start_blank b s e) ih
    go false e ih = rw (leading_none b s e, trim_start_none b s e)

-- ---- the blanks at the end
-- a byte that stays stands in front of whatever follows
pub keep_end_none : (b : ℕ) (s : Text) → blank b ≡ false → keep_end b s ≡ b ∷ s
unfolding keep_end
keep_end_none b [] e = rw e
keep_end_none b (c ∷ s) e = refl

keep_end_snoc : (b : ℕ) (s : Text) (c : ℕ) → keep_end b (s ++ (c ∷ [])) ≡ b ∷ s ++ (c ∷ [])
unfolding keep_end
keep_end_snoc b [] c = refl
keep_end_snoc b (d ∷ s) c = refl

pub trim_end_blank : (s : Text) (c : ℕ) → blank c ≡ true → trim_end (s ++ (c ∷ [])) ≡ trim_end s
unfolding trim_end keep_end
trim_end_blank [] c e = rw e
trim_end_blank (b ∷ s) c e = ap (keep_end b) (trim_end_blank s c e)

pub trim_end_none : (s : Text) (c : ℕ) → blank c ≡ false → trim_end (s ++ (c ∷ [])) ≡ s ++ (c ∷ [])
unfolding trim_end keep_end
trim_end_none [] c e = rw e
trim_end_none (b ∷ s) c e = ap (keep_end b) (trim_end_none s c e) ∙ keep_end_snoc b s c

-- what is left is the front of the text
pub take_trim_end : (t : Text) → take (length (trim_end t)) t ≡ trim_end t
unfolding trim_end keep_end
take_trim_end [] = refl
take_trim_end (b ∷ s) = go (trim_end s) (take_trim_end s)
  where
    short : (y : Bool) → take (length (cond y [] (b ∷ []))) (b ∷ s) ≡ cond y [] (b ∷ [])
    short true = refl
    short false = refl

    go : (r : Text) → take (length r) s ≡ r → take (length (keep_end b r)) (b ∷ s) ≡ keep_end b r
    go [] e = short (blank b)
    go (c ∷ r) e = ap (λ (l : Text). b ∷ l) e

pub trim_end_le : (t : Text) → length (trim_end t) ≤ length t
trim_end_le t = omega (arith, rw length-take at (ap length (take_trim_end t)))

-- ---- the blanks in front, counted as the bytes before the first that is none
pub leading_until : (t : Text) → until filled t ≡ leading t
unfolding leading until
leading_until [] = refl
leading_until (b ∷ s) = go (blank b) refl (leading_until s)
  where
    go : (y : Bool) → blank b ≡ y → until filled s ≡ leading s → until filled (b ∷ s) ≡ leading (b ∷ s)
    go true e ih = until_later filled b s (ap not e) ∙ ap suc ih ∙ sym (leading_blank b s e)
    go false e ih = until_here filled b s (ap not e) ∙ sym (leading_none b s e)

pub leading_le : (t : Text) → leading t ≤ length t
leading_le t = rw (leading_until t) at (until_le filled t)

-- ---- what a trimmed text is
-- the part of a text between its outer blanks
pub trim_part : (t : Text) → trim t ≡ take (length (trim t)) (drop (leading t) t)
unfolding trim
trim_part t = rw (drop_leading t) (sym (take_trim_end (trim_start t)))

pub trim_within : (t : Text) → leading t + length (trim t) ≤ length t
unfolding trim
trim_within t = omega (arith, leading_le t, trim_end_le (trim_start t), length-drop (leading t) t, ap length (drop_leading t))

pub trim_le : (t : Text) → length (trim t) ≤ length t
trim_le t = omega (arith, trim_within t)

-- a text that no blank leads starts with another byte
pub first_none : (b : ℕ) (s : Text) → leading (b ∷ s) ≡ 0 → blank b ≡ false
first_none b s z = go (blank b) refl
  where
    go : (y : Bool) → blank b ≡ y → blank b ≡ false
    go true e = absurd (omega (arith, leading_blank b s e))
    go false e = e

pub leading_trim_start : (t : Text) → leading (trim_start t) ≡ 0
unfolding leading trim_start
leading_trim_start [] = refl
leading_trim_start (b ∷ s) = go (blank b) refl (leading_trim_start s)
  where
    go : (y : Bool) → blank b ≡ y → leading (trim_start s) ≡ 0 → leading (trim_start (b ∷ s)) ≡ 0
    go true e ih = rw (trim_start_blank b s e) ih
    go false e ih = rw (trim_start_none b s e) (leading_none b s e)

leading_trim_end : (t : Text) → leading t ≡ 0 → leading (trim_end t) ≡ 0
unfolding trim_end
leading_trim_end [] z = z
leading_trim_end (b ∷ s) z = rw (keep_end_none b (trim_end s) (first_none b s z)) (leading_none b (trim_end s) (first_none b s z))

-- no blank leads a trimmed text
pub leading_trim : (t : Text) → leading (trim t) ≡ 0
unfolding trim
leading_trim t = leading_trim_end (trim_start t) (leading_trim_start t)

pub trim_first : (t : Text) {b : ℕ} {s : Text} → trim t ≡ b ∷ s → blank b ≡ false
trim_first t {b} {s} e = first_none b s (rw e at (leading_trim t))

trim_start_none_leads : (t : Text) → leading t ≡ 0 → trim_start t ≡ t
trim_start_none_leads t z = sym (drop_leading t) ∙ rw z

trim_end_trim_end : (t : Text) → trim_end (trim_end t) ≡ trim_end t
unfolding trim_end keep_end
trim_end_trim_end [] = refl
trim_end_trim_end (b ∷ s) = go (trim_end s) (trim_end_trim_end s)
  where
    short : (y : Bool) → blank b ≡ y → trim_end (cond y [] (b ∷ [])) ≡ cond y [] (b ∷ [])
    short true e = refl
    short false e = keep_end_none b [] e

    go : (r : Text) → trim_end r ≡ r → trim_end (keep_end b r) ≡ keep_end b r
    go [] e = short (blank b) refl
    go (c ∷ r) e = ap (keep_end b) e

-- a trimmed text is trimmed
pub trim_trim : (t : Text) → trim (trim t) ≡ trim t
unfolding trim
trim_trim t = ap trim_end (trim_start_none_leads (trim t) (leading_trim t)) ∙ trim_end_trim_end (trim_start t)
