-- The names of a text and more: those that byte 10 ends, and those of what is left and more. Assumes nothing.
use Rattle.std.proofs.Common.{ℕ, ◌≡◌, refl, sym, ap, ◌∙◌, Bool, true, false, List, [], ◌∷◌, ◌++◌, map}
use Rattle.std.specs.Prelude.{eqb}
use Rattle.rules.specs.Text.{Text, on_first, cut_where, cut_at}
use Rattle.text.proofs.Until.{cut_here, cut_later, cut_first}
use Rattle.sheettext.specs.Names.{name_kept, names_of, names_in}
use Rattle.cli_totals.specs.Names.{lines_before, last_line, whole_names, left_of}
use Rattle.cli_totals.proofs.Cutting.{cut_single, lines_next, last_next}

-- ---- the names of some lines, with one in front, or a byte in front of the first
names_next : (l : Text) (c : List Text) (y : Text) (ys : List Text) → c ≡ y ∷ ys → names_of (l ∷ c) ≡ l ∷ names_of c
unfolding names_of
names_next l c y ys e = rw e refl

names_first : (b : ℕ) (z : Text) (zs : List Text) (x : Text) (r : List Text) → names_of (z ∷ zs) ≡ x ∷ r → names_of ((b ∷ z) ∷ zs) ≡ (b ∷ x) ∷ r
unfolding names_of
names_first b [] [] x r e = absurd (cc)
names_first b (c ∷ z) [] x r e = let first : c ∷ z ≡ x = cc in let none : [] ≡ r = cc in ap (λ (y : Text). (b ∷ y) ∷ []) first ∙ ap (λ (y : List Text). (b ∷ x) ∷ y) none
names_first b z (v ∷ vs) x r e =
    let first : z ≡ x = cc in
    let more : names_of (v ∷ vs) ≡ r = cc in
    ap (λ (y : Text). (b ∷ y) ∷ names_of (v ∷ vs)) first ∙ ap (λ (y : List Text). (b ∷ x) ∷ y) more

module _ (f : ℕ → Bool) (y : Text) where
  -- by the cut c of a text: what the names of the text and y are
  abbrev By : List Text → List Text
  By c = lines_before c ++ names_of (cut_where f (last_line c ++ y))

  nothing : (c : List Text) → c ≡ [] ∷ [] → names_of (cut_where f y) ≡ By c
  unfolding lines_before last_line
  nothing c e = rw e refl

  one_cut : (c : List Text) (x : Text) (xs : List Text) → c ≡ x ∷ xs → [] ∷ By c ≡ By ([] ∷ c)
  one_cut c x xs e =
      ap (λ (ls : List Text). ls ++ names_of (cut_where f (last_line c ++ y))) (sym (lines_next [] c x xs e))
      ∙ ap (λ (l : Text). lines_before ([] ∷ c) ++ names_of (cut_where f (l ++ y))) (sym (last_next [] c x xs e))

  -- a byte in front: s is the text, c its cut, and d that of the text and y
  byte_on : (b : ℕ) (s : Text) (x : Text) (xs : List Text) (d : List Text) (z : Text) (zs : List Text) → f b ≡ false → d ≡ cut_where f (s ++ y) → d ≡ z ∷ zs
      → (xs ≡ [] → x ≡ s) → names_of d ≡ By (x ∷ xs) → names_of (on_first b d) ≡ By ((b ∷ x) ∷ xs)
  unfolding lines_before last_line on_first
  byte_on b s x [] d z zs p q e single ih =
      ap (λ (c : List Text). names_of (on_first b c)) q
      ∙ (ap names_of (sym (cut_later f b (s ++ y) p)) ∙ ap (λ (t : Text). names_of (cut_where f (b ∷ (t ++ y)))) (sym (single refl)))
  byte_on b s x (v ∷ vs) d z zs p q e single ih =
      ap (λ (c : List Text). names_of (on_first b c)) e
      ∙ names_first b z zs x (lines_before (v ∷ vs) ++ names_of (cut_where f (last_line (v ∷ vs) ++ y))) (sym (ap names_of e) ∙ ih)

  cut_nil : cut_where f [] ≡ [] ∷ []
  unfolding cut_where
  cut_nil = refl

  single_so : (s x : Text) (xs : List Text) → cut_where f s ≡ x ∷ xs → xs ≡ [] → x ≡ s
  single_so s x xs e h = cut_single f s x (e ∙ ap (λ (ls : List Text). x ∷ ls) h)

  first_on : (b : ℕ) (s x : Text) (xs : List Text) → cut_where f s ≡ x ∷ xs → on_first b (cut_where f s) ≡ (b ∷ x) ∷ xs
  unfolding on_first
  first_on b s x xs e = ap (on_first b) e

  pub names_on : (t : Text) → names_of (cut_where f (t ++ y)) ≡ By (cut_where f t)
  names_on [] = nothing (cut_where f []) cut_nil
  names_on (b ∷ s) = go (f b) refl (names_on s)
    where
      go : (u : Bool) → f b ≡ u → names_of (cut_where f (s ++ y)) ≡ By (cut_where f s) → names_of (cut_where f (b ∷ (s ++ y))) ≡ By (cut_where f (b ∷ s))
      go true p ih =
          ap names_of (cut_here f b (s ++ y) p)
          ∙ (names_next [] (cut_where f (s ++ y)) _ _ (cut_first f (s ++ y))
          ∙ (ap (λ (ls : List Text). [] ∷ ls) ih
          ∙ (one_cut (cut_where f s) _ _ (cut_first f s) ∙ ap By (sym (cut_here f b s p)))))
      go false p ih =
          ap names_of (cut_later f b (s ++ y) p)
          ∙ (byte_on b s _ _ (cut_where f (s ++ y)) _ _ p refl (cut_first f (s ++ y)) (single_so s _ _ (cut_first f s)) (ih ∙ ap By (cut_first f s))
          ∙ ap By (sym (cut_later f b s p ∙ first_on b s _ _ (cut_first f s))))

map_both : (xs ys : List Text) → map name_kept (xs ++ ys) ≡ map name_kept xs ++ map name_kept ys
map_both [] ys = refl
map_both (x ∷ xs) ys = ap (λ (l : List Text). name_kept x ∷ l) (map_both xs ys)

pub names_of_both : (t y : Text) → map name_kept (names_in (t ++ y)) ≡ whole_names t ++ map name_kept (names_in (left_of t ++ y))
unfolding names_in cut_at whole_names left_of
names_of_both t y =
    ap (map name_kept) (names_on (eqb 10) y t)
    ∙ map_both (lines_before (cut_where (eqb 10) t)) (names_of (cut_where (eqb 10) (last_line (cut_where (eqb 10) t) ++ y)))
