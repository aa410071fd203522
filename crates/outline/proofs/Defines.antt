-- Whether a text contains DC. or DS.: by its bytes one after the other, and without its leading blanks. Assumes nothing.
use mathlib.Core.Path.{◌≡◌, refl, sym, ap, ◌∙◌}
use mathlib.Core.Bool.{Bool, true, false, ◌&&◌, ◌||◌, false≢true}
use mathlib.Core.List.{[], ◌∷◌}
use Prim.Native.Nat.{ℕ, ◌+◌, ◌-◌, ◌≤◌}
use native.Mathlib.Omega.{arith}
use borrow.Author.Tests.{eqb-true, ne_eqb, leb-true, lt-leb}
use lib.Dec.{eqb, leb}
use lib.ListN.{drop}
use Rattle.rules.specs.Text.{Text, bytes, blank, leading, upper, uppers, starts, contains}
use Rattle.rules.specs.Line.{is_data}
use Rattle.text.specs.Pieces.{until}
use Rattle.text.proofs.Compare.{eqb_sym}
use Rattle.text.proofs.Contains.{contains_short}
use Rattle.text.proofs.Until.{until_later}
use Rattle.outline.specs.Outline.{is_define, defines_from}

-- ---- at one place: DC. or DS., or further on
contains_or : (p : Text) (b : ℕ) (t : Text) → contains p (b ∷ t) ≡ (starts p (b ∷ t) || contains p t)
unfolding contains
contains_or p b t = go (starts p (b ∷ t)) refl
  where
    go : (y : Bool) → starts p (b ∷ t) ≡ y → contains p (b ∷ t) ≡ (starts p (b ∷ t) || contains p t)
    go true e = rw (e, contains)
    go false e = rw (e, contains)

starts_three : (x y z p q b : ℕ) (t : Text) → starts (x ∷ y ∷ z ∷ []) (p ∷ q ∷ b ∷ t) ≡ (eqb x p && (eqb y q && eqb z b))
unfolding starts
starts_three x y z p q b t = go (eqb x p) (eqb y q) (eqb z b) refl refl refl
  where
    go : (u v w : Bool) → eqb x p ≡ u → eqb y q ≡ v → eqb z b ≡ w → starts (x ∷ y ∷ z ∷ []) (p ∷ q ∷ b ∷ t) ≡ (eqb x p && (eqb y q && eqb z b))
    go false v w e f g = rw (e, starts)
    go true false w e f g = rw (e, f, starts)
    go true true false e f g = rw (e, f, g, starts)
    go true true true e f g = rw (e, f, g, starts)

four : (a b c d : Bool) → ((a || b) || (c || d)) ≡ ((a || c) || (b || d))
four true b c d = refl
four false true true d = refl
four false true false d = refl
four false false true d = refl
four false false false d = refl

factor : (d c s z : Bool) → ((d && (c && z)) || (d && (s && z))) ≡ (z && (d && (c || s)))
factor false c s true = refl
factor false c s false = refl
factor true true s true = refl
factor true true true false = refl
factor true true false false = refl
factor true false true true = refl
factor true false false true = refl
factor true false true false = refl
factor true false false false = refl

-- a dot is one in upper case too, and nothing else is
upper_dot : (b : ℕ) → eqb 46 (upper b) ≡ eqb b 46
unfolding upper
upper_dot b = go (leb 97 b) (leb b 122) refl refl
  where
    go : (u v : Bool) → leb 97 b ≡ u → leb b 122 ≡ v → eqb 46 (upper b) ≡ eqb b 46
    go true true e f =
        let h = leb-true 97 b e in
        let k = leb-true b 122 f in
        rw (e, f) (ne_eqb 46 (b - 32) (λ z. absurd (omega arith)) ∙ sym (ne_eqb b 46 (λ z. absurd (omega arith))))
    go true false e f = rw (e, f) (eqb_sym 46 b)
    go false v e f = rw e (eqb_sym 46 b)

starts_either : (p q b : ℕ) (t : Text)
    → (starts (bytes "DC.") (uppers (p ∷ q ∷ b ∷ t)) || starts (bytes "DS.") (uppers (p ∷ q ∷ b ∷ t))) ≡ (eqb b 46 && is_define p q)
unfolding bytes uppers is_define
starts_either p q b t =
    rw (starts_three 68 67 46 (upper p) (upper q) (upper b) (uppers t), starts_three 68 83 46 (upper p) (upper q) (upper b) (uppers t), upper_dot b, eqb_sym 68 (upper p), eqb_sym 67 (upper q), eqb_sym 83 (upper q))
    (factor (eqb (upper p) 68) (eqb (upper q) 67) (eqb (upper q) 83) (eqb b 46))

data_here : (p q b : ℕ) (t : Text) → is_data (p ∷ q ∷ b ∷ t) ≡ (eqb b 46 && is_define p q || is_data (q ∷ b ∷ t))
unfolding is_data uppers
data_here p q b t =
    rw (contains_or (bytes "DC.") (upper p) (upper q ∷ upper b ∷ uppers t), contains_or (bytes "DS.") (upper p) (upper q ∷ upper b ∷ uppers t))
    (four (starts (bytes "DC.") (uppers (p ∷ q ∷ b ∷ t))) (contains (bytes "DC.") (uppers (q ∷ b ∷ t))) (starts (bytes "DS.") (uppers (p ∷ q ∷ b ∷ t))) (contains (bytes "DS.") (uppers (q ∷ b ∷ t)))
    ∙ ap (λ x. x || is_data (q ∷ b ∷ t)) (starts_either p q b t))

data_short : (p q : ℕ) → is_data (p ∷ q ∷ []) ≡ false
unfolding is_data bytes uppers
data_short p q = rw (contains_short (bytes "DC.") (upper p ∷ upper q ∷ []) (omega arith), contains_short (bytes "DS.") (upper p ∷ upper q ∷ []) (omega arith))

-- ---- byte by byte
defines_is : (p q : ℕ) (t : Text) → defines_from p q t ≡ is_data (p ∷ q ∷ t)
unfolding defines_from
defines_is p q [] = sym (data_short p q)
defines_is p q (b ∷ t) = ap (λ x. eqb b 46 && is_define p q || x) (defines_is q b t) ∙ sym (data_here p q b t)

-- a byte that is no D changes nothing
data_after : (b : ℕ) (t : Text) → eqb 68 (upper b) ≡ false → is_data (b ∷ t) ≡ is_data t
unfolding is_data bytes uppers starts
data_after b t e = rw (contains_or (bytes "DC.") (upper b) (uppers t), contains_or (bytes "DS.") (upper b) (uppers t), e, starts)

-- a blank is no D, and no colon
blank_low : (b : ℕ) → blank b ≡ true → b ≤ 32
unfolding blank
blank_low b e = go (leb 9 b) (leb b 13) (eqb b 32) refl refl refl
  where
    go : (u v w : Bool) → leb 9 b ≡ u → leb b 13 ≡ v → eqb b 32 ≡ w → b ≤ 32
    go u v true f g h = omega (arith, eqb-true b 32 h)
    go u true false f g h = omega (arith, leb-true b 13 g)
    go true false false f g h = absurd (false≢true (rw (f, g, h) at e))
    go false false false f g h = absurd (false≢true (rw (f, h) at e))

upper_low : (b : ℕ) → b ≤ 32 → eqb 68 (upper b) ≡ false
unfolding upper
upper_low b h = rw (lt-leb 97 b (omega arith)) (ne_eqb 68 b (λ z. absurd (omega arith)))

-- the leading blanks left out
pub data_trimmed : (t : Text) → is_data t ≡ is_data (drop (leading t) t)
unfolding leading
data_trimmed [] = refl
data_trimmed (b ∷ t) = go (blank b) refl (data_trimmed t)
  where
    go : (y : Bool) → blank b ≡ y → is_data t ≡ is_data (drop (leading t) t) → is_data (b ∷ t) ≡ is_data (drop (leading (b ∷ t)) (b ∷ t))
    go true e ih = rw (e, leading) (data_after b t (upper_low b (blank_low b e)) ∙ ih)
    go false e ih = rw (e, leading)

pub defines_all : (t : Text) → defines_from 0 0 (drop (leading t) t) ≡ is_data t
unfolding upper
defines_all t = defines_is 0 0 (drop (leading t) t) ∙ data_after 0 (0 ∷ drop (leading t) t) refl ∙ data_after 0 (drop (leading t) t) refl ∙ sym (data_trimmed t)

pub colon_trimmed : (t : Text) → leading t + until (eqb 58) (drop (leading t) t) ≡ until (eqb 58) t
unfolding leading until
colon_trimmed [] = omega arith
colon_trimmed (b ∷ t) = go (blank b) refl (colon_trimmed t)
  where
    go : (y : Bool) → blank b ≡ y → leading t + until (eqb 58) (drop (leading t) t) ≡ until (eqb 58) t
        → leading (b ∷ t) + until (eqb 58) (drop (leading (b ∷ t)) (b ∷ t)) ≡ until (eqb 58) (b ∷ t)
    go true e ih =
        let h = blank_low b e in
        rw (until_later (eqb 58) b t (ne_eqb 58 b (λ z. absurd (omega arith)))) (rw (e, leading) (omega (arith, ih)))
    go false e ih = rw (e, leading) (omega arith)
