-- That a text holds or starts with a word, in upper case, is seen in its pieces, and beside its colons. Assumes nothing.
use Prim.Native.Nat.{ℕ, ◌-◌, ◌≤◌, ◌<◌}
use mathlib.Core.Path.{◌≡◌, refl, sym, ap, ◌∙◌}
use mathlib.Core.Bool.{Bool, true, false, not, ◌&&◌, ◌||◌, cond, false≢true}
use mathlib.Core.List.{List, [], ◌∷◌, ◌++◌}
use native.Mathlib.Omega.{arith}
use lib.Dec.{leb, eqb}
use borrow.Author.Tests.{ne_eqb, eqb-true, eqb-false, leb-true, lt-leb, le-leb, leb-false}
use Rattle.rules.specs.Text.{Text, blank, upper, uppers, leading, keep_end, trim_end, on_first, cut_where, drop_empty, pieces, first_text, starts, contains}
use Rattle.text.proofs.Until.{cut_here, cut_later}
use Rattle.text.proofs.Trim.{first_none, keep_end_none}

-- the text p stands in s, upper-cased
abbrev pub hits : Text → Text → Bool
hits p s = contains p (uppers s)

-- the upper-cased s starts with p
abbrev pub leads : Text → Text → Bool
leads p s = starts p (uppers s)

abbrev pub colon : ℕ → Bool
colon b = eqb b 58

-- no byte of the text passes the test
pub data Clean (f : ℕ → Bool) : Text → Type 0 where
  clean : Clean f []
  cleaner : {a : ℕ} {p : Text} → f a ≡ false → Clean f p → Clean f (a ∷ p)

-- ---- bytes
-- blanks and colons have no other case
small : (b : ℕ) → b < 97 → upper b ≡ b
unfolding upper
small b h = rw (lt-leb 97 b h)

blank_small : (b : ℕ) → blank b ≡ true → b < 97
unfolding blank
blank_small b e = go (leb 97 b) refl
  where
    go : (y : Bool) → leb 97 b ≡ y → b < 97
    go true f =
        let h : 97 ≤ b = leb-true 97 b f in
        absurd (false≢true (rw (le-leb 9 b (omega arith), lt-leb b 13 (omega arith), ne_eqb b 32 (λ z. omega arith)) at e))
    go false f = omega (arith, leb-false 97 b f)

differs : (f : ℕ → Bool) (a b : ℕ) → f a ≡ false → f b ≡ true → upper b ≡ b → eqb a (upper b) ≡ false
differs f a b p q u = rw u (ne_eqb a b (λ e. false≢true (sym p ∙ ap f e ∙ q)))

differs_blank : (a b : ℕ) → blank a ≡ false → blank b ≡ true → eqb a (upper b) ≡ false
differs_blank a b p q = differs blank a b p q (small b (blank_small b q))

-- ---- the clauses, by the test
pub starts_equal : (a : ℕ) (p : Text) (b : ℕ) (t : Text) → eqb a b ≡ true → starts (a ∷ p) (b ∷ t) ≡ starts p t
unfolding starts
starts_equal a p b t e = rw (e, starts)

pub starts_other : (a : ℕ) (p : Text) (b : ℕ) (t : Text) → eqb a b ≡ false → starts (a ∷ p) (b ∷ t) ≡ false
unfolding starts
starts_other a p b t e = rw (e, starts)

pub contains_or : (p : Text) (b : ℕ) (t : Text) → contains p (b ∷ t) ≡ (starts p (b ∷ t) || contains p t)
unfolding contains
contains_or p b t = go (starts p (b ∷ t)) refl
  where
    go : (y : Bool) → starts p (b ∷ t) ≡ y → contains p (b ∷ t) ≡ (starts p (b ∷ t) || contains p t)
    go true e = rw (e, contains)
    go false e = rw (e, contains)

or_assoc : (x y z : Bool) → (x || (y || z)) ≡ ((x || y) || z)
or_assoc true y z = refl
or_assoc false y z = refl

-- ---- what leads a text is seen in its first piece
pub first_on_first : (b : ℕ) (ps : List Text) → first_text (on_first b ps) ≡ b ∷ first_text ps
unfolding on_first first_text
first_on_first b [] = refl
first_on_first b (p ∷ ps) = refl

leads_cut : {p : Text} → Clean blank p → (s : Text) → leads p s ≡ leads p (first_text (cut_where blank s))
unfolding starts uppers cut_where first_text
leads_cut clean s = refl
leads_cut (cleaner q c) [] = refl
leads_cut (cleaner {a} {p} q c) (b ∷ s) = go (blank b) refl (eqb a (upper b)) refl (leads_cut c s)
  where
    go : (y : Bool) → blank b ≡ y → (z : Bool) → eqb a (upper b) ≡ z → leads p s ≡ leads p (first_text (cut_where blank s))
        → leads (a ∷ p) (b ∷ s) ≡ leads (a ∷ p) (first_text (cut_where blank (b ∷ s)))
    go true e z f ih = rw (cut_here blank b s e) (starts_other a p (upper b) (uppers s) (differs_blank a b q e))
    go false e true f ih = rw (cut_later blank b s e, first_on_first b (cut_where blank s)) (starts_equal a p (upper b) (uppers s) f ∙ ih ∙ sym (starts_equal a p (upper b) _ f))
    go false e false f ih = rw (cut_later blank b s e, first_on_first b (cut_where blank s)) (starts_other a p (upper b) (uppers s) f ∙ sym (starts_other a p (upper b) _ f))

first_kept : (b : ℕ) (ps : List Text) → first_text (drop_empty (on_first b ps)) ≡ b ∷ first_text ps
unfolding on_first first_text drop_empty
first_kept b [] = refl
first_kept b (p ∷ ps) = refl

first_piece : (s : Text) → leading s ≡ 0 → first_text (pieces s) ≡ first_text (cut_where blank s)
unfolding pieces cut_where drop_empty first_text
first_piece [] z = refl
first_piece (b ∷ s) z = rw (cut_later blank b s (first_none b s z), first_kept b (cut_where blank s), first_on_first b (cut_where blank s))

pub first_byte : (b : ℕ) (s : Text) → blank b ≡ false → first_text (pieces (b ∷ s)) ≡ b ∷ first_text (cut_where blank s)
unfolding pieces
first_byte b s e = rw (cut_later blank b s e, first_kept b (cut_where blank s))

pub leads_pieces : {p : Text} → Clean blank p → (s : Text) → leading s ≡ 0 → leads p s ≡ leads p (first_text (pieces s))
leads_pieces c s z = rw (first_piece s z) (leads_cut c s)

-- two texts with the same pieces
pub leads_same : {p : Text} → Clean blank p → (s t : Text) → leading s ≡ 0 → leading t ≡ 0 → pieces s ≡ pieces t → leads p s ≡ leads p t
leads_same c s t y z e = leads_pieces c s y ∙ rw e (sym (leads_pieces c t z))

-- ---- what a text holds is seen in its pieces
any_in : Text → List Text → Bool
any_in p [] = false
any_in p (q ∷ qs) = hits p q || any_in p qs

module _ {a : ℕ} {p : Text} (c : Clean blank (a ∷ p)) where
  any_on_first : (b : ℕ) (ps : List Text) → (leads (a ∷ p) (b ∷ first_text ps) || any_in (a ∷ p) ps) ≡ any_in (a ∷ p) (on_first b ps)
  unfolding on_first first_text uppers any_in contains starts
  any_on_first b [] = rw (contains_or (a ∷ p) (upper b) []) (or_assoc (starts (a ∷ p) (upper b ∷ [])) false false)
  any_on_first b (q ∷ qs) = rw (contains_or (a ∷ p) (upper b) (uppers q)) (or_assoc (leads (a ∷ p) (b ∷ q)) (hits (a ∷ p) q) (any_in (a ∷ p) qs))

  any_drop : (ps : List Text) → any_in (a ∷ p) (drop_empty ps) ≡ any_in (a ∷ p) ps
  unfolding drop_empty any_in contains starts uppers
  any_drop [] = refl
  any_drop ([] ∷ ps) = any_drop ps
  any_drop ((b ∷ q) ∷ ps) = ap (λ (y : Bool). hits (a ∷ p) (b ∷ q) || y) (any_drop ps)

first_stop : {a : ℕ} {p : Text} {f : ℕ → Bool} → Clean f (a ∷ p) → f a ≡ false
first_stop (cleaner q c) = q

hits_cut : {a : ℕ} {p : Text} → Clean blank (a ∷ p) → (s : Text) → hits (a ∷ p) s ≡ any_in (a ∷ p) (cut_where blank s)
unfolding cut_where any_in contains starts uppers
hits_cut c [] = refl
hits_cut {a} {p} c (b ∷ s) = go (blank b) refl (hits_cut c s)
  where
    go : (y : Bool) → blank b ≡ y → hits (a ∷ p) s ≡ any_in (a ∷ p) (cut_where blank s) → hits (a ∷ p) (b ∷ s) ≡ any_in (a ∷ p) (cut_where blank (b ∷ s))
    go true e ih = rw (cut_here blank b s e) (contains_or (a ∷ p) (upper b) (uppers s) ∙ rw (starts_other a p (upper b) (uppers s) (differs_blank a b (first_stop c) e)) ih)
    go false e ih =
        let l : leads (a ∷ p) (b ∷ s) ≡ leads (a ∷ p) (b ∷ first_text (cut_where blank s)) = rw (cut_later blank b s e, first_on_first b (cut_where blank s)) at (leads_cut c (b ∷ s)) in
        rw (cut_later blank b s e) (contains_or (a ∷ p) (upper b) (uppers s) ∙ rw (l, ih) (any_on_first c b (cut_where blank s)))

hits_pieces : {a : ℕ} {p : Text} → Clean blank (a ∷ p) → (s : Text) → hits (a ∷ p) s ≡ any_in (a ∷ p) (pieces s)
unfolding pieces
hits_pieces c s = hits_cut c s ∙ sym (any_drop c (cut_where blank s))

pub hits_same : {a : ℕ} {p : Text} → Clean blank (a ∷ p) → (s t : Text) → pieces s ≡ pieces t → hits (a ∷ p) s ≡ hits (a ∷ p) t
hits_same c s t e = hits_pieces c s ∙ rw e (sym (hits_pieces c t))

-- ---- beside a colon
pub leads_beside : {p : Text} → Clean colon p → (l r : Text) → leads p (l ++ (58 ∷ r)) ≡ leads p l
unfolding starts uppers
leads_beside clean l r = refl
leads_beside (cleaner {a} {p} q c) [] r = starts_other a p (upper 58) (uppers r) (differs colon a 58 q refl (small 58 (omega arith)))
leads_beside (cleaner {a} {p} q c) (b ∷ l) r = go (eqb a (upper b)) refl (leads_beside c l r)
  where
    go : (y : Bool) → eqb a (upper b) ≡ y → leads p (l ++ (58 ∷ r)) ≡ leads p l → leads (a ∷ p) (b ∷ (l ++ (58 ∷ r))) ≡ leads (a ∷ p) (b ∷ l)
    go true e ih = starts_equal a p (upper b) _ e ∙ ih ∙ sym (starts_equal a p (upper b) _ e)
    go false e ih = starts_other a p (upper b) _ e ∙ sym (starts_other a p (upper b) _ e)

pub hits_beside : {a : ℕ} {p : Text} → Clean colon (a ∷ p) → (l r : Text) → hits (a ∷ p) (l ++ (58 ∷ r)) ≡ (hits (a ∷ p) l || hits (a ∷ p) r)
unfolding contains starts uppers
hits_beside {a} {p} c [] r = contains_or (a ∷ p) (upper 58) (uppers r) ∙ rw (starts_other a p (upper 58) (uppers r) (differs colon a 58 (first_stop c) refl (small 58 (omega arith))))
hits_beside {a} {p} c (b ∷ l) r = contains_or (a ∷ p) (upper b) (uppers (l ++ (58 ∷ r))) ∙ rw (leads_beside c (b ∷ l) r, hits_beside c l r) (or_assoc (leads (a ∷ p) (b ∷ l)) (hits (a ∷ p) l) (hits (a ∷ p) r) ∙ rw (← contains_or (a ∷ p) (upper b) (uppers l)))

-- ---- blanks at the end
pub leads_trim_end : {p : Text} → Clean blank p → (s : Text) → leads p (trim_end s) ≡ leads p s
unfolding starts uppers trim_end keep_end
leads_trim_end clean s = refl
leads_trim_end (cleaner q c) [] = refl
leads_trim_end (cleaner {a} {p} q c) (b ∷ s) = go (blank b) refl (eqb a (upper b)) refl (leads_trim_end c s)
  where
    short : (y : Bool) → eqb a (upper b) ≡ false → leads (a ∷ p) (cond y [] (b ∷ [])) ≡ false
    short true e = refl
    short false e = starts_other a p (upper b) [] e

    gone : (r : Text) → eqb a (upper b) ≡ false → leads (a ∷ p) (keep_end b r) ≡ leads (a ∷ p) (b ∷ s)
    gone [] e = short (blank b) e ∙ sym (starts_other a p (upper b) (uppers s) e)
    gone (d ∷ r) e = starts_other a p (upper b) (uppers (d ∷ r)) e ∙ sym (starts_other a p (upper b) (uppers s) e)

    go : (y : Bool) → blank b ≡ y → (z : Bool) → eqb a (upper b) ≡ z → leads p (trim_end s) ≡ leads p s → leads (a ∷ p) (keep_end b (trim_end s)) ≡ leads (a ∷ p) (b ∷ s)
    go true e z f ih = gone (trim_end s) (differs_blank a b q e)
    go false e true f ih = rw (keep_end_none b (trim_end s) e) (starts_equal a p (upper b) _ f ∙ ih ∙ sym (starts_equal a p (upper b) _ f))
    go false e false f ih = gone (trim_end s) f

-- ---- words without a blank and a colon
pub data Sign : Text → Type 0 where
  sign : {a : ℕ} {p : Text} → Clean blank (a ∷ p) → Clean colon (a ∷ p) → Sign (a ∷ p)

unfoldable pub free : (ℕ → Bool) → Text → Bool
free f [] = true
free f (a ∷ p) = not (f a) && free f p

clean_of : (f : ℕ → Bool) (p : Text) → free f p ≡ true → Clean f p
unfolding free
clean_of f [] e = clean
clean_of f (a ∷ p) e = go (f a) refl (clean_of f p)
  where
    go : (y : Bool) → f a ≡ y → (free f p ≡ true → Clean f p) → Clean f (a ∷ p)
    go true g ih = absurd (false≢true (rw g at e))
    go false g ih = cleaner g (ih (rw g at e))

-- for a word that is written out: both tests compute
pub sign_of : (a : ℕ) (p : Text) → free blank (a ∷ p) ≡ true → free colon (a ∷ p) ≡ true → Sign (a ∷ p)
sign_of a p e f = sign (clean_of blank (a ∷ p) e) (clean_of colon (a ∷ p) f)

-- the texts hold the same words; the same words lead them
abbrev pub Holds : Text → Text → Type 0
Holds s t = (p : Text) → Sign p → hits p t ≡ hits p s

abbrev pub Leads : Text → Text → Type 0
Leads s t = (p : Text) → Sign p → leads p t ≡ leads p s

pub holds_same : (s t : Text) → pieces t ≡ pieces s → Holds s t
holds_same s t e (a ∷ p) (sign b c) = hits_same b t s e
holds_same s t e [] i = elim i [ ]

pub holds_beside : (l r l' r' : Text) → pieces l' ≡ pieces l → pieces r' ≡ pieces r → Holds (l ++ (58 ∷ r)) (l' ++ (58 ∷ r'))
holds_beside l r l' r' e f (a ∷ p) (sign b c) = rw (hits_beside c l r, hits_beside c l' r', hits_same b l' l e, hits_same b r' r f)
holds_beside l r l' r' e f [] i = elim i [ ]

eqb_swap : (a b : ℕ) → eqb a b ≡ eqb b a
eqb_swap a b = go (eqb a b) refl
  where
    go : (x : Bool) → eqb a b ≡ x → eqb a b ≡ eqb b a
    go true e = rw (eqb-true a b e)
    go false e = e ∙ sym (ne_eqb b a (λ f. eqb-false a b e (sym f)))

-- a byte below the letters is seen in upper case as it is
pub upper_eqb : (c b : ℕ) → c < 65 → eqb c (upper b) ≡ eqb b c
unfolding upper
upper_eqb c b h = go (leb 97 b) refl (leb b 122) refl
  where
    go : (y : Bool) → leb 97 b ≡ y → (z : Bool) → leb b 122 ≡ z → eqb c (cond (leb 97 b && leb b 122) (b - 32) b) ≡ eqb b c
    go true e true f = let k : 97 ≤ b = leb-true 97 b e in rw (e, f) (ne_eqb c (b - 32) (λ z. omega arith) ∙ sym (ne_eqb b c (λ z. omega arith)))
    go true e false f = rw (e, f) (eqb_swap c b)
    go false e z f = rw e (eqb_swap c b)
