-- A copy has all bytes of its line that are no blanks, in order, and no others. Assumes nothing.
use Prim.Native.Nat.{ℕ}
use mathlib.Core.Path.{◌≡◌, refl, sym, ◌∙◌}
use mathlib.Core.Logic.{◌≢◌}
use mathlib.Core.Bool.{Bool, true, false, cond}
use mathlib.Core.List.{List, [], ◌∷◌, ◌++◌}
use Rattle.rules.specs.Text.{Text, blank, trim, on_first, cut_where, drop_empty, pieces}
use Rattle.text.proofs.Until.{cut_here, cut_later}
use Rattle.text.proofs.Pieces.{pieces_trim}
use Rattle.requests.specs.Tidy.{squeezed}
use Rattle.promises.specs.Tidy.{Kind, skip, fin, origin, step4, kind_of, solid, CopyKeepsBytes}
use Rattle.tidylaws.proofs.Neat.{pieces_squeezed}
use Rattle.tidylaws.proofs.Cuts.{around_of}
use Rattle.tidylaws.proofs.Shapes.{Rest, code, data_whole, data_parts, Open, open_whole, open_parts, open_of, copy_by, copy_by_lem}

-- ---- by the pieces
whole : List Text → Text
whole [] = []
whole (p ∷ ps) = p ++ whole ps

whole_on_first : (b : ℕ) (ps : List Text) → whole (on_first b ps) ≡ b ∷ whole ps
unfolding whole on_first
whole_on_first b [] = refl
whole_on_first b (p ∷ ps) = refl

solid_cut : (s : Text) → solid s ≡ whole (cut_where blank s)
unfolding solid whole cut_where
solid_cut [] = refl
solid_cut (b ∷ s) = go (blank b) refl (solid_cut s)
  where
    go : (y : Bool) → blank b ≡ y → solid s ≡ whole (cut_where blank s) → cond (blank b) (solid s) (b ∷ solid s) ≡ whole (cut_where blank (b ∷ s))
    go true e ih = rw (e, cut_here blank b s e) ih
    go false e ih = rw (e, cut_later blank b s e, whole_on_first b (cut_where blank s), ih)

whole_drop : (ps : List Text) → whole (drop_empty ps) ≡ whole ps
unfolding whole drop_empty
whole_drop [] = refl
whole_drop ([] ∷ ps) = whole_drop ps
whole_drop ((b ∷ p) ∷ ps) = rw (whole_drop ps)

solid_pieces : (s : Text) → solid s ≡ whole (pieces s)
unfolding pieces
solid_pieces s = solid_cut s ∙ sym (whole_drop (cut_where blank s))

solid_same : (s t : Text) → pieces s ≡ pieces t → solid s ≡ solid t
solid_same s t e = solid_pieces s ∙ rw e (sym (solid_pieces t))

solid_squeezed : (s : Text) → solid (squeezed s) ≡ solid s
solid_squeezed s = solid_same (squeezed s) s (pieces_squeezed s)

solid_trim : (s : Text) → solid (trim s) ≡ solid s
solid_trim s = solid_same (trim s) s (pieces_trim s)

-- ---- around a colon
solid_colon : (l r : Text) → solid (l ++ (58 ∷ r)) ≡ solid l ++ (58 ∷ solid r)
unfolding solid blank
solid_colon [] r = refl
solid_colon (b ∷ l) r = rw (solid_colon l r) (go (blank b))
  where
    go : (y : Bool) → cond y (solid l ++ (58 ∷ solid r)) (b ∷ (solid l ++ (58 ∷ solid r))) ≡ cond y (solid l) (b ∷ solid l) ++ (58 ∷ solid r)
    go true = refl
    go false = refl

solid_rest : {s t : Text} → Rest s t → solid t ≡ solid s
solid_rest {s} (code e) = solid_squeezed s
solid_rest {s} (data_whole e f) = solid_squeezed s
solid_rest {s} (data_parts {l} {r} e f) = rw ((around_of s l r f).whole, solid_colon l r, solid_colon (trim l) (squeezed (trim r)), solid_trim l, solid_squeezed (trim r), solid_trim r)

solid_open : {s t : Text} → Open s t → solid t ≡ solid s
solid_open {s} (open_whole f) = solid_squeezed s
solid_open {s} (open_parts {l} {r} {t} f q) = rw ((around_of s l r f).whole, solid_colon l r, solid_colon (trim l) t, solid_trim l, solid_rest q, solid_trim r)

solid_kind : (k : Kind) (s : Text) → k ≢ skip → solid (copy_by k s) ≡ solid s
unfolding copy_by
solid_kind skip s d = absurd (d refl)
solid_kind fin s d = solid_squeezed s
solid_kind origin s d = solid_squeezed s
solid_kind step4 s d = solid_open (open_of s)

pub copy_keeps_bytes : CopyKeepsBytes
unfolding CopyKeepsBytes
copy_keeps_bytes l d = rw (copy_by_lem l) (solid_kind (kind_of (trim l)) (trim l) d ∙ solid_trim l)
