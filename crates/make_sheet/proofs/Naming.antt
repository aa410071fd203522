-- The names that are given on so far are the first of the input's. Assumes nothing.
use Rattle.std.proofs.Common.{ℕ, ◌≡◌, refl, sym, ap, ◌∙◌, Bool, true, false, List, [], ◌∷◌, ◌++◌, length, map, arith, min}
use Rattle.std.specs.Prelude.{eqb}
use Rattle.rules.specs.Text.{Text, on_first, cut_where, cut_at}
use Rattle.text.proofs.Until.{cut_here, cut_later, cut_first}
use Rattle.sheettext.specs.Names.{names_of, names_in, name_kept, NamesRead}

-- ---- a text that ends where it is cut, and more
module _ (f : ℕ → Bool) (u : Text) where
  abbrev On : List Text → List Text → List Text → Type 0
  On cut more ls = cut ≡ ls ++ ([] ∷ []) → more ≡ ls ++ cut_where f u

  here : (c m : List Text) (y : Text) (ys ls : List Text) → c ≡ y ∷ ys → ((ks : List Text) → On c m ks) → On ([] ∷ c) ([] ∷ m) ls
  here c m y ys [] e ih h = absurd (cc)
  here c m y ys (l ∷ ls) e ih h = let same : c ≡ ls ++ ([] ∷ []) = cc in let none : [] ≡ l = cc in ap (λ (x : List Text). [] ∷ x) (ih ls same) ∙ ap (λ (x : Text). x ∷ (ls ++ cut_where f u)) none

  later : (b : ℕ) (c m : List Text) (y : Text) (ys ls : List Text) → c ≡ y ∷ ys → ((ks : List Text) → On c m ks) → On ((b ∷ y) ∷ ys) (on_first b m) ls
  unfolding on_first
  later b c m y ys [] e ih h = absurd (cc)
  later b c m y ys (l ∷ ls) e ih h =
      let others : ys ≡ ls ++ ([] ∷ []) = cc in
      let first : b ∷ y ≡ l = cc in
      ap (on_first b) (ih (y ∷ ls) (e ∙ ap (λ (x : List Text). y ∷ x) others)) ∙ ap (λ (x : Text). x ∷ (ls ++ cut_where f u)) first

  cut_on : (t : Text) (ls : List Text) → On (cut_where f t) (cut_where f (t ++ u)) ls
  unfolding cut_where on_first
  cut_on [] [] h = refl
  cut_on [] (l ∷ []) h = absurd (cc)
  cut_on [] (l ∷ m ∷ ls) h = absurd (cc)
  cut_on (b ∷ t) ls h = go (f b) refl (cut_on t) ls h
    where
      go : (x : Bool) → f b ≡ x → ((ks : List Text) → On (cut_where f t) (cut_where f (t ++ u)) ks) → (ks : List Text) → On (cut_where f (b ∷ t)) (cut_where f (b ∷ (t ++ u))) ks
      go true e ih ks k = cut_here f b (t ++ u) e ∙ here (cut_where f t) (cut_where f (t ++ u)) _ _ ks (cut_first f t) ih (sym (cut_here f b t e) ∙ k)
      go false e ih ks k =
          cut_later f b (t ++ u) e
          ∙ later b (cut_where f t) (cut_where f (t ++ u)) _ _ ks (cut_first f t) ih (sym (ap (on_first b) (cut_first f t)) ∙ (sym (cut_later f b t e) ∙ k))

-- ---- the names of the lines
named_on : (ls : List Text) (y : Text) (ys : List Text) → names_of (ls ++ (y ∷ ys)) ≡ ls ++ names_of (y ∷ ys)
unfolding names_of
named_on [] y ys = refl
named_on (m ∷ []) y ys = refl
named_on (m ∷ n ∷ ls) y ys = ap (λ (x : List Text). m ∷ x) (named_on (n ∷ ls) y ys)

map_both : (xs ys : List Text) → map name_kept (xs ++ ys) ≡ map name_kept xs ++ map name_kept ys
map_both [] ys = refl
map_both (x ∷ xs) ys = ap (λ (l : List Text). name_kept x ∷ l) (map_both xs ys)

no_bytes : (l : Text) → 0 ≡ min 4097 (length l) → l ≡ []
no_bytes [] e = refl
no_bytes (b ∷ l) e = absurd (omega arith)

-- where byte 10 has just ended a name, whatever follows
pub names_begin : {t : Text} {given : List Text} {name : List ℕ} → NamesRead t given name 0 → (u : Text) → (rest : List Text) × (map name_kept (names_in (t ++ u)) ≡ given ++ rest)
unfolding names_in cut_at
names_begin {t} {given} r u =
    let none = no_bytes r.last r.count in
    let cut = cut_on (eqb 10) u t r.lines (r.cut ∙ ap (λ (x : Text). r.lines ++ (x ∷ [])) none) in
    let first = cut_first (eqb 10) u in
    let named : names_of (r.lines ++ cut_where (eqb 10) u) ≡ r.lines ++ names_of (cut_where (eqb 10) u) =
    ap (λ (x : List Text). names_of (r.lines ++ x)) first ∙ (named_on r.lines _ _ ∙ ap (λ (x : List Text). r.lines ++ names_of x) (sym first)) in (
      map name_kept (names_of (cut_where (eqb 10) u)),
      ap (λ (x : List Text). map name_kept (names_of x)) cut
          ∙ (ap (map name_kept) named ∙ (map_both r.lines (names_of (cut_where (eqb 10) u)) ∙ ap (λ (x : List Text). x ++ map name_kept (names_of (cut_where (eqb 10) u))) (sym r.names))),
    )
