-- A copy has no byte that its line has not, but spaces and colons; and its lines are those that were written. Assumes nothing.
use Prim.Native.Nat.{ℕ, zero, suc}
use mathlib.Core.Path.{◌≡◌, refl, ap, ◌∙◌}
use mathlib.Core.Bool.{Bool, true, false}
use mathlib.Core.List.{List, [], ◌∷◌, ◌++◌, append-nil}
use lib.Dec.{eqb}
use lib.ListN.{length, take, drop}
use Rattle.rules.specs.Text.{Text, leading, trim_start, trim_end, trim, on_first, cut_where, cut_at, drop_empty, pieces, join_more, joined, blank}
use Rattle.rules.specs.Line.{trimmed_line, line_of}
use Rattle.text.proofs.Until.{cut_here, cut_later}
use Rattle.text.proofs.Trim.{trim_part}
use Rattle.requests.specs.Tidy.{squeezed, tidy_line, before, tidy_lines, part_more, parted, tidy}
use Rattle.promises.specs.Tidy.{Kind, skip, fin, origin, step4, kind_of, CopyOfCopy}
use Rattle.tidylaws.proofs.Hits.{Clean, clean, cleaner}
use Rattle.tidylaws.proofs.Cuts.{around_of}
use Rattle.tidylaws.proofs.Shapes.{Rest, code, data_whole, data_parts, Open, open_whole, open_parts, open_of, copy_by, copy_by_lem, before_by, lines_more}
use Rattle.tidylaws.proofs.Again.{lines_again}

-- no byte of any of the texts passes the test
pub data AllClean (f : ℕ → Bool) : List Text → Type 0 where
  all_clean : AllClean f []
  more_clean : {p : Text} {ps : List Text} → Clean f p → AllClean f ps → AllClean f (p ∷ ps)

module _ {f : ℕ → Bool} where
  clean_append : {s t : Text} → Clean f s → Clean f t → Clean f (s ++ t)
  clean_append clean d = d
  clean_append (cleaner q c) d = cleaner q (clean_append c d)

  clean_left : (s t : Text) → Clean f (s ++ t) → Clean f s
  clean_left [] t c = clean
  clean_left (b ∷ s) t (cleaner q c) = cleaner q (clean_left s t c)

  clean_right : (s t : Text) → Clean f (s ++ t) → Clean f t
  clean_right [] t c = c
  clean_right (b ∷ s) t (cleaner q c) = clean_right s t c

  clean_tail : {b : ℕ} {s : Text} → Clean f (b ∷ s) → Clean f s
  clean_tail (cleaner q c) = c

  clean_take : (n : ℕ) {s : Text} → Clean f s → Clean f (take n s)
  clean_take zero c = clean
  clean_take (suc n) clean = clean
  clean_take (suc n) (cleaner q c) = cleaner q (clean_take n c)

  clean_drop : (n : ℕ) {s : Text} → Clean f s → Clean f (drop n s)
  clean_drop zero c = c
  clean_drop (suc n) clean = clean
  clean_drop (suc n) (cleaner q c) = clean_drop n c

  clean_trim : (s : Text) → Clean f s → Clean f (trim s)
  clean_trim s c = rw (trim_part s) (clean_take (length (trim s)) (clean_drop (leading s) c))

  -- ---- cuts
  all_on_first : (b : ℕ) {ps : List Text} → f b ≡ false → AllClean f ps → AllClean f (on_first b ps)
  unfolding on_first
  all_on_first b q all_clean = more_clean (cleaner q clean) all_clean
  all_on_first b q (more_clean c cs) = more_clean (cleaner q c) cs

  -- by any test, of a clean text
  all_cut : (g : ℕ → Bool) {s : Text} → Clean f s → AllClean f (cut_where g s)
  unfolding cut_where
  all_cut g clean = more_clean clean all_clean
  all_cut g (cleaner {a} {p} q c) = go (g a) refl (all_cut g c)
    where
      go : (y : Bool) → g a ≡ y → AllClean f (cut_where g p) → AllClean f (cut_where g (a ∷ p))
      go true e ih = rw (cut_here g a p e) (more_clean clean ih)
      go false e ih = rw (cut_later g a p e) (all_on_first a q ih)

  all_drop : {ps : List Text} → AllClean f ps → AllClean f (drop_empty ps)
  unfolding drop_empty
  all_drop all_clean = all_clean
  all_drop (more_clean {p = []} c cs) = all_drop cs
  all_drop (more_clean {p = b ∷ p} c cs) = more_clean c (all_drop cs)

-- by the test itself, of any text
all_cut_by : (f : ℕ → Bool) (s : Text) → AllClean f (cut_where f s)
unfolding cut_where
all_cut_by f [] = more_clean clean all_clean
all_cut_by f (b ∷ s) = go (f b) refl (all_cut_by f s)
  where
    go : (y : Bool) → f b ≡ y → AllClean f (cut_where f s) → AllClean f (cut_where f (b ∷ s))
    go true e ih = rw (cut_here f b s e) (more_clean clean ih)
    go false e ih = rw (cut_later f b s e) (all_on_first b e ih)

-- ---- the copy of a line
module _ (f : ℕ → Bool) (space : f 32 ≡ false) (mark : f 58 ≡ false) where
  clean_join_more : {ps : List Text} → AllClean f ps → Clean f (join_more ps)
  unfolding join_more
  clean_join_more all_clean = clean
  clean_join_more (more_clean c cs) = cleaner space (clean_append c (clean_join_more cs))

  clean_joined : {ps : List Text} → AllClean f ps → Clean f (joined ps)
  unfolding joined
  clean_joined all_clean = clean
  clean_joined (more_clean c cs) = clean_append c (clean_join_more cs)

  clean_squeezed : {s : Text} → Clean f s → Clean f (squeezed s)
  unfolding squeezed pieces
  clean_squeezed c = clean_joined (all_drop (all_cut blank c))

  clean_rest : {s t : Text} → Rest s t → Clean f s → Clean f t
  clean_rest (code e) c = clean_squeezed c
  clean_rest (data_whole e g) c = clean_squeezed c
  clean_rest {s} (data_parts {l} {r} e g) c =
      let w : Clean f (l ++ (58 ∷ r)) = rw (around_of s l r g).whole at c in
      clean_append (clean_trim l (clean_left l (58 ∷ r) w)) (cleaner mark (clean_squeezed (clean_trim r (clean_tail (clean_right l (58 ∷ r) w)))))

  clean_open : {s t : Text} → Open s t → Clean f s → Clean f t
  clean_open (open_whole g) c = clean_squeezed c
  clean_open {s} (open_parts {l} {r} g q) c =
      let w : Clean f (l ++ (58 ∷ r)) = rw (around_of s l r g).whole at c in
      clean_append (clean_trim l (clean_left l (58 ∷ r) w)) (cleaner mark (clean_rest q (clean_trim r (clean_tail (clean_right l (58 ∷ r) w)))))

  clean_kind : (k : Kind) {s : Text} → Clean f s → Clean f (copy_by k s)
  unfolding copy_by
  clean_kind skip c = clean
  clean_kind fin c = clean_squeezed c
  clean_kind origin c = clean_squeezed c
  clean_kind step4 {s} c = clean_open (open_of s) c

  clean_line : (l : Text) → Clean f l → Clean f (tidy_line l)
  clean_line l c = rw (copy_by_lem l) (clean_kind (kind_of (trim l)) (clean_trim l c))

  -- ---- the copies of the lines
  pub clean_lines : {ls : List Text} → AllClean f ls → AllClean f (tidy_lines ls)
  unfolding tidy_lines before_by
  clean_lines all_clean = all_clean
  clean_lines (more_clean {p = l} {ps = ls} c cs) = rw (lines_more l ls) (go (kind_of (trim l)) (clean_line l c) (clean_lines cs))
    where
      go : (k : Kind) {t : Text} {ts : List Text} → Clean f t → AllClean f ts → AllClean f (before_by k t ts)
      go skip d ds = ds
      go fin d ds = more_clean d all_clean
      go origin d ds = more_clean d ds
      go step4 d ds = more_clean d ds

  module _ (line : f 10 ≡ false) where
    clean_part_more : {ls : List Text} → AllClean f ls → Clean f (part_more ls)
    unfolding part_more
    clean_part_more all_clean = clean
    clean_part_more (more_clean c cs) = cleaner line (clean_append c (clean_part_more cs))

    clean_parted : {ls : List Text} → AllClean f ls → Clean f (parted ls)
    unfolding parted
    clean_parted all_clean = clean
    clean_parted (more_clean c cs) = clean_append c (clean_part_more cs)

    -- a copy has none of the bytes that its source has not
    pub clean_tidy : {s : Text} → Clean f s → Clean f (tidy s)
    unfolding tidy cut_at
    clean_tidy c = clean_parted (clean_lines (all_cut (eqb 10) c))

-- ---- the lines of a copy
cut_line : {l : Text} → Clean (eqb 10) l → (s : Text) → cut_at 10 (l ++ (10 ∷ s)) ≡ l ∷ cut_at 10 s
unfolding cut_at on_first
cut_line clean s = cut_here (eqb 10) 10 s refl
cut_line (cleaner {a} {p} q c) s = cut_later (eqb 10) a (p ++ (10 ∷ s)) q ∙ ap (on_first a) (cut_line c s)

cut_last : {l : Text} → Clean (eqb 10) l → cut_at 10 l ≡ l ∷ []
unfolding cut_at on_first cut_where
cut_last clean = refl
cut_last (cleaner {a} {p} q c) = cut_later (eqb 10) a p q ∙ ap (on_first a) (cut_last c)

pub cut_parted : {l : Text} {ls : List Text} → AllClean (eqb 10) (l ∷ ls) → cut_at 10 (parted (l ∷ ls)) ≡ l ∷ ls
unfolding parted part_more
cut_parted (more_clean {p = l} c all_clean) = rw (append-nil l) (cut_last c)
cut_parted (more_clean {p = l} c (more_clean {p = m} {ps = ms} d ds)) = cut_line c (m ++ part_more ms) ∙ ap (λ (x : List Text). l ∷ x) (cut_parted (more_clean d ds))

-- the lines that are copied, none with a byte 10
pub copies_clean : (s : Text) → AllClean (eqb 10) (tidy_lines (cut_at 10 s))
unfolding cut_at
copies_clean s = clean_lines (eqb 10) refl refl (all_cut_by (eqb 10) s)

-- ---- the copy of a copy
-- one line, and that skipped
pub no_lines : tidy_lines (cut_at 10 []) ≡ []
unfolding cut_at cut_where tidy_lines before line_of trimmed_line trim trim_start trim_end
no_lines = refl

pub copy_of_copy : CopyOfCopy
unfolding CopyOfCopy tidy parted
copy_of_copy s = go (tidy_lines (cut_at 10 s)) (copies_clean s) (lines_again (cut_at 10 s))
  where
    go : (ts : List Text) → AllClean (eqb 10) ts → tidy_lines ts ≡ ts → parted (tidy_lines (cut_at 10 (parted ts))) ≡ parted ts
    go [] c e = ap parted no_lines
    go (l ∷ ls) c e = rw (cut_parted c, e)
