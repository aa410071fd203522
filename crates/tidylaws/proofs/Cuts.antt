-- Cuts at the first colon: through squeezing, and of texts put around a colon. Assumes nothing.
use Prim.Native.Nat.{ℕ}
use mathlib.Core.Path.{◌≡◌, refl, sym, ap, ◌∙◌}
use mathlib.Core.Bool.{Bool, true, false, false≢true}
use mathlib.Core.List.{[], ◌∷◌, ◌++◌}
use native.Mathlib.Omega.{arith}
use lib.Dec.{eqb}
use borrow.Author.Tests.{eqb-true}
use Rattle.rules.specs.Text.{Text, blank, upper, uppers, pieces, Cut, uncut, around, in_front, first_cut, starts, contains}
use Rattle.tidylaws.proofs.Hits.{hits, clean, cleaner, hits_same, starts_equal, starts_other, contains_or, upper_eqb}

-- ---- the clauses, by the test
cut_here : (b : ℕ) (s : Text) → eqb b 58 ≡ true → first_cut 58 (b ∷ s) ≡ around [] s
unfolding first_cut
cut_here b s e = rw (e, first_cut)

cut_later : (b : ℕ) (s : Text) → eqb b 58 ≡ false → first_cut 58 (b ∷ s) ≡ in_front b (first_cut 58 s)
unfolding first_cut
cut_later b s e = rw (e, first_cut)

-- ---- whether there is a colon
is_cut : Cut → Bool
is_cut uncut = false
is_cut (around l r) = true

in_front_lem : (b : ℕ) (c : Cut) → is_cut (in_front b c) ≡ is_cut c
unfolding in_front is_cut
in_front_lem b uncut = refl
in_front_lem b (around l r) = refl

has_colon : (s : Text) → is_cut (first_cut 58 s) ≡ hits (58 ∷ []) s
unfolding first_cut is_cut contains starts uppers
has_colon [] = refl
has_colon (b ∷ s) = go (eqb b 58) refl (has_colon s)
  where
    go : (y : Bool) → eqb b 58 ≡ y → is_cut (first_cut 58 s) ≡ hits (58 ∷ []) s → is_cut (first_cut 58 (b ∷ s)) ≡ hits (58 ∷ []) (b ∷ s)
    go true e ih = rw (cut_here b s e) (sym (contains_or (58 ∷ []) (upper b) (uppers s) ∙ rw (starts_equal 58 [] (upper b) (uppers s) (upper_eqb 58 b (omega arith) ∙ e))))
    go false e ih = rw (cut_later b s e) (in_front_lem b (first_cut 58 s) ∙ ih ∙ sym (contains_or (58 ∷ []) (upper b) (uppers s) ∙ rw (starts_other 58 [] (upper b) (uppers s) (upper_eqb 58 b (omega arith) ∙ e))))

-- it is seen in the pieces
pub uncut_same : (s t : Text) → pieces s ≡ pieces t → first_cut 58 t ≡ uncut → first_cut 58 s ≡ uncut
unfolding is_cut blank
uncut_same s t e u = go (first_cut 58 s) refl
  where
    none : is_cut (first_cut 58 s) ≡ false
    none = has_colon s ∙ hits_same (cleaner refl clean) s t e ∙ sym (has_colon t) ∙ ap is_cut u

    go : (c : Cut) → first_cut 58 s ≡ c → first_cut 58 s ≡ uncut
    go uncut f = f
    go (around l r) f = absurd (false≢true (sym none ∙ ap is_cut f))

-- ---- the texts around it
pub record Around (s l r : Text) : Type 0 where
  pub whole : s ≡ l ++ (58 ∷ r)
  pub none : first_cut 58 l ≡ uncut

pub around_of : (s l r : Text) → first_cut 58 s ≡ around l r → Around s l r
unfolding first_cut in_front
around_of [] l r e = let z : ◌≡◌ {A = ℕ} 0 1 = cc in absurd (omega arith)
around_of (b ∷ s) l r e = go (eqb b 58) refl (first_cut 58 s) refl (around_of s)
  where
    go : (y : Bool) → eqb b 58 ≡ y → (c : Cut) → first_cut 58 s ≡ c → ((x z : Text) → first_cut 58 s ≡ around x z → Around s x z) → Around (b ∷ s) l r
    go true f c g ih =
        let x : l ≡ [] = cc (cut_here b s f) in
        let y : r ≡ s = cc (cut_here b s f) in
        record { whole = rw (x, y, eqb-true b 58 f); none = rw x }
    go false f uncut g ih = let z : ◌≡◌ {A = ℕ} 0 1 = cc (rw g at (cut_later b s f)) in absurd (omega arith)
    go false f (around x z) g ih =
        let h : l ≡ b ∷ x = cc (rw g at (cut_later b s f)) in
        let k : r ≡ z = cc (rw g at (cut_later b s f)) in
        record { whole = rw (h, k, ← (ih x z g).whole); none = rw h (cut_later b x f ∙ rw (ih x z g).none) }

pub cut_around : (l r : Text) → first_cut 58 l ≡ uncut → first_cut 58 (l ++ (58 ∷ r)) ≡ around l r
unfolding in_front
cut_around [] r u = cut_here 58 r refl
cut_around (b ∷ l) r u = go (eqb b 58) refl (first_cut 58 l) refl (cut_around l r)
  where
    go : (y : Bool) → eqb b 58 ≡ y → (c : Cut) → first_cut 58 l ≡ c → (first_cut 58 l ≡ uncut → first_cut 58 (l ++ (58 ∷ r)) ≡ around l r) → first_cut 58 (b ∷ (l ++ (58 ∷ r))) ≡ around (b ∷ l) r
    go true e c f ih = let z : ◌≡◌ {A = ℕ} 0 1 = cc (cut_here b l e) in absurd (omega arith)
    go false e uncut f ih = cut_later b (l ++ (58 ∷ r)) e ∙ rw (ih f)
    go false e (around x y) f ih = let z : ◌≡◌ {A = ℕ} 0 1 = cc (rw f at (cut_later b l e)) in absurd (omega arith)
