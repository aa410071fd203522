-- Pieces joined by one space have the same pieces. Assumes nothing.
use mathlib.Core.Path.{◌≡◌, refl, ap, ◌∙◌}
use mathlib.Core.Bool.{Bool, true, false}
use mathlib.Core.List.{List, [], ◌∷◌, ◌++◌, append-nil}
use Prim.Native.Nat.{ℕ, suc, ◌<◌}
use native.Mathlib.Omega.{arith}
use lib.ListN.{length}
use Rattle.rules.specs.Text.{Text, blank, on_first, cut_where, drop_empty, pieces, joined, join_more}
use Rattle.text.specs.Pieces.{until, run}
use Rattle.text.proofs.Until.{until_here, until_later, cut_here, cut_later}
use Rattle.text.proofs.Pieces.{drop_empty_keep, pieces_one}

-- a text that is not empty and has no blank
pub record Word (p : Text) : Type 0 where
  pub some : 0 < length p
  pub whole : run p ≡ length p

pub data Words : List Text → Type 0 where
  no_words : Words []
  more_words : {p : Text} {ps : List Text} → Word p → Words ps → Words (p ∷ ps)

-- ---- pieces are words
-- texts without a blank, empty or not
data Unblank : List Text → Type 0 where
  no_texts : Unblank []
  more_texts : {p : Text} {ps : List Text} → run p ≡ length p → Unblank ps → Unblank (p ∷ ps)

unblank_on_first : (b : ℕ) {ps : List Text} → blank b ≡ false → Unblank ps → Unblank (on_first b ps)
unfolding on_first until
unblank_on_first b e no_texts = more_texts (until_later blank b [] e) no_texts
unblank_on_first b e (more_texts {p} {ps} h r) = more_texts (until_later blank b p e ∙ ap suc h) r

unblank_cut : (t : Text) → Unblank (cut_where blank t)
unfolding cut_where until
unblank_cut [] = more_texts refl no_texts
unblank_cut (b ∷ s) = go (blank b) refl (unblank_cut s)
  where
    go : (y : Bool) → blank b ≡ y → Unblank (cut_where blank s) → Unblank (cut_where blank (b ∷ s))
    go true e ih = rw (cut_here blank b s e) (more_texts refl ih)
    go false e ih = rw (cut_later blank b s e) (unblank_on_first b e ih)

words : {ps : List Text} → Unblank ps → Words (drop_empty ps)
unfolding drop_empty
words no_texts = no_words
words (more_texts {p} {ps} h r) = go p h (words r)
  where
    go : (x : Text) → run x ≡ length x → Words (drop_empty ps) → Words (drop_empty (x ∷ ps))
    go [] e ih = ih
    go (b ∷ x) e ih = more_words {p = b ∷ x} (record { some = omega arith; whole = e }) ih

pub pieces_words : (t : Text) → Words (pieces t)
unfolding pieces
pieces_words t = words (unblank_cut t)

-- ---- words joined
-- a word in front of a space is the first of the cut
cut_word : (p s : Text) → run p ≡ length p → cut_where blank (p ++ 32 ∷ s) ≡ p ∷ cut_where blank s
unfolding blank on_first
cut_word [] s h = cut_here blank 32 s refl
cut_word (b ∷ p) s h = go (blank b) refl (cut_word p s)
  where
    go : (y : Bool) → blank b ≡ y → (run p ≡ length p → cut_where blank (p ++ 32 ∷ s) ≡ p ∷ cut_where blank s) → cut_where blank (b ∷ p ++ 32 ∷ s) ≡ (b ∷ p) ∷ cut_where blank s
    go true e ih = absurd (omega (arith, until_here blank b p e))
    go false e ih = cut_later blank b (p ++ 32 ∷ s) e ∙ ap (on_first b) (ih (omega (arith, until_later blank b p e)))

pub pieces_joined : (ps : List Text) → Words ps → pieces (joined ps) ≡ ps
unfolding pieces joined join_more cut_where drop_empty
pieces_joined [] w = refl
pieces_joined (p ∷ []) (more_words w no_words) = rw (append-nil p) (pieces_one p w.whole w.some)
pieces_joined (p ∷ q ∷ ps) (more_words w ws) = ap drop_empty (cut_word p (joined (q ∷ ps)) w.whole) ∙ drop_empty_keep p (cut_where blank (joined (q ∷ ps))) w.some ∙ ap (λ (l : List Text). p ∷ l) (pieces_joined (q ∷ ps) ws)
