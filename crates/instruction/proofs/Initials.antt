-- The size goes by the operands' first bytes, and blanks change none: it is found in the text as it stands. Assumes nothing.
use Rattle.std.specs.Prelude.{Option, None, Some}
use mathlib.Core.Path.{◌≡◌, refl, sym, ap, ◌∙◌}
use mathlib.Core.Bool.{Bool, true, false, cond, false≢true}
use mathlib.Core.List.{List, [], ◌∷◌, ◌++◌, map}
use Prim.Native.Nat.{ℕ}
use borrow.Author.Tests.{eqb-true}
use lib.Dec.{eqb}
use lib.ListN.{take}
use Rattle.rules.specs.Text.{Text, bytes, blank, trim_start, trim_end, trim, on_first, cut_where, cut_at, drop_empty, pieces, join_more, joined, starts, last_text}
use Rattle.rules.specs.Line.{is_plain}
use Rattle.text.proofs.Until.{cut_here, cut_later, cut_first}
use Rattle.text.proofs.Trim.{keep_end_none}
use Rattle.instruction.specs.Split.{operands_in}
use Rattle.instruction.specs.Size.{is_long_by, size_by}
use Rattle.instruction.specs.declared.SizeRule.{SizeRule}
use Rattle.instruction.specs.declared.SizeRule.TheVariants.{Immediate, Move}
use Rattle.instruction.proofs.Joined.{join_more_cut, joined_on_first}

-- ---- the bytes that are no blanks
unfoldable pub solid : Text → Text
solid [] = []
solid (b ∷ s) = cond (blank b) (solid s) (b ∷ solid s)

module _ (b : ℕ) (s : Text) where
  solid_blank : blank b ≡ true → solid (b ∷ s) ≡ solid s
  unfolding solid
  solid_blank e = rw e

  solid_filled : blank b ≡ false → solid (b ∷ s) ≡ b ∷ solid s
  unfolding solid
  solid_filled e = rw e

solid_append : (s t : Text) → solid (s ++ t) ≡ solid s ++ solid t
unfolding solid
solid_append [] t = refl
solid_append (b ∷ s) t = go (blank b) refl (solid_append s t)
  where
    go : (y : Bool) → blank b ≡ y → solid (s ++ t) ≡ solid s ++ solid t → solid (b ∷ (s ++ t)) ≡ solid (b ∷ s) ++ solid t
    go true e ih = rw (solid_blank b (s ++ t) e, solid_blank b s e) ih
    go false e ih = rw (solid_filled b (s ++ t) e, solid_filled b s e) (ap (λ (r : Text). b ∷ r) ih)

-- joining the pieces keeps them
solid_space : (s : Text) → solid (32 ∷ s) ≡ solid s
unfolding blank
solid_space s = solid_blank 32 s refl

solid_drop_empty : (ps : List Text) → solid (join_more (drop_empty ps)) ≡ solid (join_more ps)
unfolding join_more drop_empty
solid_drop_empty [] = refl
solid_drop_empty ([] ∷ ps) = solid_drop_empty ps ∙ sym (solid_space (join_more ps))
solid_drop_empty ((b ∷ p) ∷ ps) =
    rw (solid_space ((b ∷ p) ++ join_more (drop_empty ps)), solid_space ((b ∷ p) ++ join_more ps), solid_append (b ∷ p) (join_more (drop_empty ps)), solid_append (b ∷ p) (join_more ps))
    (ap (λ (r : Text). solid (b ∷ p) ++ r) (solid_drop_empty ps))

solid_joined : (ps : List Text) → solid (joined ps) ≡ solid (join_more ps)
unfolding joined join_more
solid_joined [] = refl
solid_joined (p ∷ ps) = sym (solid_space (p ++ join_more ps))

solid_cut : (s : Text) → solid (joined (cut_where blank s)) ≡ solid s
unfolding cut_where joined join_more
solid_cut [] = refl
solid_cut (b ∷ s) = go (blank b) refl (solid_cut s)
  where
    go : (y : Bool) → blank b ≡ y → solid (joined (cut_where blank s)) ≡ solid s → solid (joined (cut_where blank (b ∷ s))) ≡ solid (b ∷ s)
    go true e ih = rw (cut_here blank b s e, solid_blank b s e) (ap solid (join_more_cut s) ∙ solid_space (joined (cut_where blank s)) ∙ ih)
    go false e ih =
        rw (cut_later blank b s e, joined_on_first b (cut_where blank s), solid_filled b s e, solid_filled b (joined (cut_where blank s)) e) (ap (λ (r : Text). b ∷ r) ih)

solid_pieces : (s : Text) → solid (joined (pieces s)) ≡ solid s
unfolding pieces
solid_pieces s = solid_joined (drop_empty (cut_where blank s)) ∙ solid_drop_empty (cut_where blank s) ∙ sym (solid_joined (cut_where blank s)) ∙ solid_cut s

-- ---- cut at commas
comma_filled : (b : ℕ) → eqb 44 b ≡ true → blank b ≡ false
unfolding blank
comma_filled b e = rw (← eqb-true 44 b e)

solid_on_first : (b : ℕ) (ps : List Text) → blank b ≡ false → map solid (on_first b ps) ≡ on_first b (map solid ps)
unfolding on_first solid
solid_on_first b [] e = ap (λ (r : Text). r ∷ []) (solid_filled b [] e)
solid_on_first b (p ∷ ps) e = ap (λ (r : Text). r ∷ map solid ps) (solid_filled b p e)

blank_on_first : (b : ℕ) (p : Text) (ps : List Text) → blank b ≡ true → map solid (on_first b (p ∷ ps)) ≡ map solid (p ∷ ps)
unfolding on_first
blank_on_first b p ps e = ap (λ (r : Text). r ∷ map solid ps) (solid_blank b p e)

solid_commas : (s : Text) → map solid (cut_where (eqb 44) s) ≡ cut_where (eqb 44) (solid s)
unfolding cut_where solid
solid_commas [] = refl
solid_commas (b ∷ s) = go (eqb 44 b) (blank b) refl refl (solid_commas s)
  where
    go : (x y : Bool) → eqb 44 b ≡ x → blank b ≡ y → map solid (cut_where (eqb 44) s) ≡ cut_where (eqb 44) (solid s)
        → map solid (cut_where (eqb 44) (b ∷ s)) ≡ cut_where (eqb 44) (solid (b ∷ s))
    go true true p q ih = absurd (false≢true (sym (comma_filled b p) ∙ q))
    go true false p q ih = rw (cut_here (eqb 44) b s p, solid_filled b s q, cut_here (eqb 44) b (solid s) p) (ap (λ (ps : List Text). [] ∷ ps) ih)
    go false true p q ih = rw (cut_later (eqb 44) b s p, solid_blank b s q) (ap (λ (ps : List Text). map solid (on_first b ps)) (cut_first (eqb 44) s) ∙ blank_on_first b _ _ q ∙ ap (map solid) (sym (cut_first (eqb 44) s)) ∙ ih)
    go false false p q ih = rw (cut_later (eqb 44) b s p, solid_filled b s q, cut_later (eqb 44) b (solid s) p) (solid_on_first b (cut_where (eqb 44) s) q ∙ ap (on_first b) ih)

-- ---- the first bytes
trim_initial : (p : Text) → take 1 (trim p) ≡ take 1 (solid p)
unfolding trim trim_start trim_end solid
trim_initial [] = refl
trim_initial (b ∷ s) = go (blank b) refl (trim_initial s)
  where
    go : (y : Bool) → blank b ≡ y → take 1 (trim s) ≡ take 1 (solid s) → take 1 (trim (b ∷ s)) ≡ take 1 (solid (b ∷ s))
    go true e ih = rw (e, trim_start) ih
    go false e ih = rw (e, trim_start, keep_end_none b (trim_end s) e)

operand_initials : (ps : List Text) → map (take 1) (drop_empty (map trim ps)) ≡ drop_empty (map (take 1) (map solid ps))
unfolding drop_empty
operand_initials [] = refl
operand_initials (p ∷ ps) = go (trim p) (trim_initial p) (operand_initials ps)
  where
    go : (q : Text) → take 1 q ≡ take 1 (solid p) → map (take 1) (drop_empty (map trim ps)) ≡ drop_empty (map (take 1) (map solid ps))
        → map (take 1) (drop_empty (q ∷ map trim ps)) ≡ drop_empty (take 1 (solid p) ∷ map (take 1) (map solid ps))
    go [] e ih = rw (← e) ih
    go (b ∷ q) e ih = rw (← e) (ap (λ (r : List Text). (b ∷ []) ∷ r) ih)

same_initials : (s : Text) → map (take 1) (operands_in (joined (pieces s))) ≡ map (take 1) (operands_in s)
unfolding operands_in cut_at
same_initials s =
    operand_initials (cut_where (eqb 44) (joined (pieces s)))
    ∙ ap (λ (ps : List Text). drop_empty (map (take 1) ps)) (solid_commas (joined (pieces s)) ∙ ap (cut_where (eqb 44)) (solid_pieces s) ∙ sym (solid_commas s))
    ∙ sym (operand_initials (cut_where (eqb 44) s))

-- ---- decide the size
starts_initial : (c : ℕ) (s : Text) → starts (c ∷ []) (take 1 s) ≡ starts (c ∷ []) s
unfolding starts
starts_initial c [] = refl
starts_initial c (b ∷ s) = refl

plain_initial : (s : Text) → is_plain (take 1 s) ≡ is_plain s
unfolding is_plain bytes
plain_initial s = rw (starts_initial 68 s, starts_initial 65 s, starts_initial 40 s)

long_initial : (k : SizeRule) (s t : Text) → is_long_by k (take 1 s) (take 1 t) ≡ is_long_by k s t
unfolding is_long_by bytes
long_initial Immediate s t = starts_initial 35 s
long_initial Move s t = rw (plain_initial s, plain_initial t)

last_initial : (t : Text) (ps : List Text) → last_text (take 1 t) (map (take 1) ps) ≡ take 1 (last_text t ps)
unfolding last_text
last_initial t [] = refl
last_initial t (p ∷ ps) = last_initial p ps

size_initial : (k : Option SizeRule) (ps : List Text) → size_by k (map (take 1) ps) ≡ size_by k ps
unfolding size_by
size_initial None ps = refl
size_initial (Some k) [] = refl
size_initial (Some k) (s ∷ []) = refl
size_initial (Some k) (s ∷ t ∷ ps) = rw (last_initial t ps, long_initial k s (last_text t ps))

pub size_standing : (k : Option SizeRule) (s : Text) → size_by k (operands_in s) ≡ size_by k (operands_in (joined (pieces s)))
size_standing k s = sym (size_initial k (operands_in s)) ∙ ap (size_by k) (sym (same_initials s)) ∙ size_initial k (operands_in (joined (pieces s)))
