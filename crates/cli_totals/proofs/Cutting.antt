-- A text cut at byte 10, and more of it. Assumes nothing.
use Rattle.std.proofs.Common.{ℕ, ◌≡◌, refl, sym, ap, ◌∙◌, Bool, true, false, List, [], ◌∷◌, ◌++◌, length, map, arith, min}
use Rattle.std.specs.Prelude.{eqb}
use Rattle.rules.specs.Text.{Text, on_first, cut_where, cut_at}
use Rattle.text.proofs.Until.{cut_here, cut_later, cut_first}
use Rattle.sheettext.specs.Names.{name_kept, NamesRead}
use Rattle.cli_totals.specs.Names.{lines_before, last_line, whole_names, left_of}

-- ---- a text that is cut into one is that one
no_more : (c : List Text) (l y : Text) (ys : List Text) → c ≡ y ∷ ys → [] ∷ c ≡ l ∷ [] → ⊥
no_more c l y ys e h = cc

one_later : (b : ℕ) (t : Text) (c : List Text) (l y : Text) (ys : List Text) → c ≡ y ∷ ys → (b ∷ y) ∷ ys ≡ l ∷ [] → ((m : Text) → c ≡ m ∷ [] → m ≡ t) → l ≡ b ∷ t
one_later b t c l y ys e h ih =
    let none : ys ≡ [] = cc in
    let first : b ∷ y ≡ l = cc in
    let same : c ≡ y ∷ [] = e ∙ ap (λ (x : List Text). y ∷ x) none in
    sym first ∙ ap (λ (x : Text). b ∷ x) (ih y same)

pub cut_single : (f : ℕ → Bool) (t l : Text) → cut_where f t ≡ l ∷ [] → l ≡ t
unfolding cut_where on_first
cut_single f [] l e = cc
cut_single f (b ∷ t) l e = go (f b) refl (cut_single f t)
  where
    go : (y : Bool) → f b ≡ y → ((m : Text) → cut_where f t ≡ m ∷ [] → m ≡ t) → l ≡ b ∷ t
    go true p ih = absurd (no_more (cut_where f t) l _ _ (cut_first f t) (sym (cut_here f b t p) ∙ e))
    go false p ih =
        one_later b t (cut_where f t) l _ _ (cut_first f t) (sym (ap (on_first b) (cut_first f t)) ∙ (sym (cut_later f b t p) ∙ e)) ih

-- ---- a text that ends where it is cut, and more
module _ (f : ℕ → Bool) (u : Text) where
  abbrev On : List Text → List Text → List Text → Type 0
  On cut more ls = cut ≡ ls ++ ([] ∷ []) → more ≡ ls ++ cut_where f u

  here : (c m : List Text) (y : Text) (ys ls : List Text) → c ≡ y ∷ ys → ((ks : List Text) → On c m ks) → On ([] ∷ c) ([] ∷ m) ls
  here c m y ys [] e ih h = absurd (cc)
  here c m y ys (l ∷ ls) e ih h = let same : c ≡ ls ++ ([] ∷ []) = cc in let none : [] ≡ l = cc in ap (λ (x : List Text). [] ∷ x) (ih ls same) ∙ ap (λ (x : Text). x ∷ (ls ++ cut_where f u)) none

  later : (b : ℕ) (c m : List Text) (y : Text) (ys ls : List Text) → c ≡ y ∷ ys → ((ks : List Text) → On c m ks) → On ((b ∷ y) ∷ ys) (on_first b m) ls
  unfolding on_first
  later b c m y ys [] e ih h = absurd (cc)
  later b c m y ys (l ∷ ls) e ih h =
      let others : ys ≡ ls ++ ([] ∷ []) = cc in
      let first : b ∷ y ≡ l = cc in
      ap (on_first b) (ih (y ∷ ls) (e ∙ ap (λ (x : List Text). y ∷ x) others)) ∙ ap (λ (x : Text). x ∷ (ls ++ cut_where f u)) first

  pub cut_on : (t : Text) (ls : List Text) → On (cut_where f t) (cut_where f (t ++ u)) ls
  unfolding cut_where on_first
  cut_on [] [] h = refl
  cut_on [] (l ∷ []) h = absurd (cc)
  cut_on [] (l ∷ m ∷ ls) h = absurd (cc)
  cut_on (b ∷ t) ls h = go (f b) refl (cut_on t) ls h
    where
      go : (x : Bool) → f b ≡ x → ((ks : List Text) → On (cut_where f t) (cut_where f (t ++ u)) ks) → (ks : List Text) → On (cut_where f (b ∷ t)) (cut_where f (b ∷ (t ++ u))) ks
      go true e ih ks k = cut_here f b (t ++ u) e ∙ here (cut_where f t) (cut_where f (t ++ u)) _ _ ks (cut_first f t) ih (sym (cut_here f b t e) ∙ k)
      go false e ih ks k =
          cut_later f b (t ++ u) e
          ∙ later b (cut_where f t) (cut_where f (t ++ u)) _ _ ks (cut_first f t) ih (sym (ap (on_first b) (cut_first f t)) ∙ (sym (cut_later f b t e) ∙ k))

-- ---- the lines of a text
pub lines_next : (l : Text) (c : List Text) (y : Text) (ys : List Text) → c ≡ y ∷ ys → lines_before (l ∷ c) ≡ l ∷ lines_before c
unfolding lines_before
lines_next l c y ys e = rw e refl

pub last_next : (l : Text) (c : List Text) (y : Text) (ys : List Text) → c ≡ y ∷ ys → last_line (l ∷ c) ≡ last_line c
unfolding last_line
last_next l c y ys e = rw e refl

-- one line and its byte 10, and more
module _ (t u l : Text) (e : cut_at 10 t ≡ l ∷ [] ∷ []) where
  cut_more : cut_at 10 (t ++ u) ≡ l ∷ cut_at 10 u
  unfolding cut_at
  cut_more = cut_on (eqb 10) u t (l ∷ []) e

  pub names_more : whole_names (t ++ u) ≡ name_kept l ∷ whole_names u
  unfolding whole_names cut_at
  names_more =
      ap (λ (x : List Text). map name_kept (lines_before x)) cut_more
      ∙ ap (map name_kept) (lines_next l (cut_where (eqb 10) u) _ _ (cut_first (eqb 10) u))

  pub left_more : left_of (t ++ u) ≡ left_of u
  unfolding left_of cut_at
  left_more = ap last_line cut_more ∙ last_next l (cut_where (eqb 10) u) _ _ (cut_first (eqb 10) u)

-- no byte 10
module _ (t : Text) (e : cut_at 10 t ≡ t ∷ []) where
  pub names_none : whole_names t ≡ []
  unfolding whole_names lines_before
  names_none = ap (λ (x : List Text). map name_kept (lines_before x)) e

  pub left_all : left_of t ≡ t
  unfolding left_of last_line
  left_all = ap last_line e

-- ---- a name that byte 10 has just ended is the only one
no_bytes : (l : Text) → 0 ≡ min 4097 (length l) → l ≡ []
no_bytes [] e = refl
no_bytes (b ∷ l) e = absurd (omega arith)

pub one_line : {t n : Text} {name : List ℕ} → NamesRead t (n ∷ []) name 0 → (l : Text) × (cut_at 10 t ≡ l ∷ [] ∷ []) × (n ≡ name_kept l)
one_line {t} {n} {name} r = go r.lines r.last r.cut r.names r.count
  where
    go : (ls : List Text) (last : Text) → cut_at 10 t ≡ ls ++ (last ∷ []) → n ∷ [] ≡ map name_kept ls → 0 ≡ min 4097 (length last)
        → (l : Text) × (cut_at 10 t ≡ l ∷ [] ∷ []) × (n ≡ name_kept l)
    go [] last c e k = absurd (cc)
    go (l ∷ []) last c e k = (l, c ∙ ap (λ (x : Text). l ∷ x ∷ []) (no_bytes last k), cc)
    go (l ∷ m ∷ ls) last c e k = absurd (cc)
