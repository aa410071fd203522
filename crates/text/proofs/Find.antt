-- Laws of the first place of a byte: the cut there, and what the loop of `find_byte_from` keeps. Assumes nothing.
use Rattle.std.specs.Prelude.{Option, None, Some}
use mathlib.Core.Path.{◌≡◌, refl, sym, ap, ◌∙◌}
use mathlib.Core.Bool.{Bool, true, false}
use mathlib.Core.List.{[], ◌∷◌}
use Prim.Native.Nat.{ℕ, suc, ◌+◌, ◌-◌, ◌≤◌, ◌<◌}
use native.Mathlib.Numerals.{add-one}
use native.Mathlib.Omega.{arith}
use borrow.Author.Tests.{eq-eqb, ne_eqb, eqb-true}
use lib.Dec.{eqb}
use lib.ListN.{length, take, drop, get_or, drop_of_length-le, length-drop}
use lib.Seq.{drop-cons, drop-drop}
use Rattle.rules.specs.Text.{Text, on_first, cut_where, cut_at, uncut, around, in_front, first_cut}
use Rattle.text.specs.Find.{further, index_of}
use Rattle.text.proofs.Compare.{eqb_sym}
use Rattle.text.proofs.Until.{cut_here, cut_later}

-- ---- the clauses, by the test
module _ (c b : ℕ) (s : Text) where
  module _ (e : eqb b c ≡ true) where
    pub index_here : index_of c (b ∷ s) ≡ Some 0
    unfolding index_of
    index_here = rw (e, index_of)

    first_here : first_cut c (b ∷ s) ≡ around [] s
    unfolding first_cut
    first_here = rw (e, first_cut)

    parts_here : cut_at c (b ∷ s) ≡ [] ∷ cut_at c s
    unfolding cut_at
    parts_here = cut_here (eqb c) b s (eqb_sym c b ∙ e)

  module _ (e : eqb b c ≡ false) where
    pub index_later : index_of c (b ∷ s) ≡ further 1 (index_of c s)
    unfolding index_of
    index_later = rw (e, index_of)

    first_later : first_cut c (b ∷ s) ≡ in_front b (first_cut c s)
    unfolding first_cut
    first_later = rw (e, first_cut)

    parts_later : cut_at c (b ∷ s) ≡ on_first b (cut_at c s)
    unfolding cut_at
    parts_later = cut_later (eqb c) b s (eqb_sym c b ∙ e)

-- ---- an index, and none
-- where c first stands, by index
pub record Indexed (c : ℕ) (s : Text) (i : ℕ) : Type 0 where
  pub within : i < length s
  pub here : get_or s i 0 ≡ c
  pub cut : first_cut c s ≡ around (take i s) (drop (suc i) s)
  pub parts : cut_at c s ≡ take i s ∷ cut_at c (drop (suc i) s)

pub indexed : (c : ℕ) (s : Text) (i : ℕ) → index_of c s ≡ Some i → Indexed c s i
unfolding index_of in_front on_first
indexed c [] i h = cc
indexed c (b ∷ s) i h = go (eqb b c) refl (λ j p. indexed c s j p)
  where
    at_first : eqb b c ≡ true → 0 ≡ i → Indexed c (b ∷ s) i
    at_first e z = rw (← z) (record { within = omega arith; here = eqb-true b c e; cut = first_here c b s e; parts = parts_here c b s e })

    behind : eqb b c ≡ false → (j : ℕ) → suc j ≡ i → Indexed c s j → Indexed c (b ∷ s) i
    behind e j z x =
        rw (← z) (record {
          within = omega arith;
          here = x.here;
          cut = first_later c b s e ∙ ap (in_front b) x.cut;
          parts = parts_later c b s e ∙ ap (on_first b) x.parts;
        })

    rest : eqb b c ≡ false → (x : Option ℕ) → further 1 x ≡ Some i → ((j : ℕ) → x ≡ Some j → Indexed c s j) → Indexed c (b ∷ s) i
    rest e None q ih = cc
    rest e (Some j) q ih = let z : 1 + j ≡ i = cc in behind e j (omega arith) (ih j refl)

    go : (y : Bool) → eqb b c ≡ y → ((j : ℕ) → index_of c s ≡ Some j → Indexed c s j) → Indexed c (b ∷ s) i
    go true e ih = at_first e (let p : ◌≡◌ {A = Option ℕ} (Some 0) (Some i) = sym (index_here c b s e) ∙ h in cc)
    go false e ih = rest e (index_of c s) (sym (index_later c b s e) ∙ h) ih

-- c stands nowhere
pub record Unindexed (c : ℕ) (s : Text) : Type 0 where
  pub cut : first_cut c s ≡ uncut
  pub parts : cut_at c s ≡ s ∷ []

pub unindexed : (c : ℕ) (s : Text) → index_of c s ≡ None → Unindexed c s
unfolding index_of first_cut in_front cut_at cut_where on_first
unindexed c [] h = record { cut = refl; parts = refl }
unindexed c (b ∷ s) h = go (eqb b c) refl (λ p. unindexed c s p)
  where
    rest : eqb b c ≡ false → (x : Option ℕ) → further 1 x ≡ None → (x ≡ None → Unindexed c s) → Unindexed c (b ∷ s)
    rest e None q ih = record { cut = first_later c b s e ∙ ap (in_front b) (ih refl).cut; parts = parts_later c b s e ∙ ap (on_first b) (ih refl).parts }
    rest e (Some j) q ih = cc

    go : (y : Bool) → eqb b c ≡ y → (index_of c s ≡ None → Unindexed c s) → Unindexed c (b ∷ s)
    go true e ih = let p : ◌≡◌ {A = Option ℕ} (Some 0) None = sym (index_here c b s e) ∙ h in cc
    go false e ih = rest e (index_of c s) (sym (index_later c b s e) ∙ h) ih

-- where c first stands from `at` on, by its index in the whole text
pub record IndexedFrom (c : ℕ) (t : Text) (at i : ℕ) : Type 0 where
  pub from : at ≤ i
  pub within : i < length t
  pub cut : first_cut c (drop at t) ≡ around (take (i - at) (drop at t)) (drop (suc i) t)
  pub parts : cut_at c (drop at t) ≡ take (i - at) (drop at t) ∷ cut_at c (drop (suc i) t)

-- `find_byte_from` found c at i, or nowhere
module _ (c : ℕ) (t : Text) (at : ℕ) where
  pub found_from : (i : ℕ) → further at (index_of c (drop at t)) ≡ Some i → IndexedFrom c t at i
  found_from i e = go (index_of c (drop at t)) refl e
    where
      shift : (j : ℕ) → at + j ≡ i → Indexed c (drop at t) j → IndexedFrom c t at i
      shift j p x =
          let l : i - at ≡ j = omega arith in
          let n : at + suc j ≡ suc i = omega arith in
          let r : drop (suc i) t ≡ drop (suc j) (drop at t) = rw (drop-drop (suc j) at t, n) in
          record { from = omega arith; within = omega (arith, length-drop at t); cut = rw (l, r) x.cut; parts = rw (l, r) x.parts }

      go : (x : Option ℕ) → index_of c (drop at t) ≡ x → further at x ≡ Some i → IndexedFrom c t at i
      go None p q = cc
      go (Some j) p q = shift j (cc) (indexed c (drop at t) j p)

  pub found_nowhere_from : further at (index_of c (drop at t)) ≡ None → Unindexed c (drop at t)
  found_nowhere_from e = go (index_of c (drop at t)) refl e
    where
      go : (x : Option ℕ) → index_of c (drop at t) ≡ x → further at x ≡ None → Unindexed c (drop at t)
      go None p q = unindexed c (drop at t) p
      go (Some j) p q = cc

-- ---- the loop of `find_byte_from`
further_more : (n : ℕ) (x : Option ℕ) → further n (further 1 x) ≡ further (n + 1) x
further_more n None = refl
further_more n (Some i) = ap Some (omega arith)

-- what it keeps: what is left leads to the same place
abbrev pub Looked : Text → ℕ → ℕ → ℕ → Type 0
Looked t at c i = further i (index_of c (drop i t)) ≡ further at (index_of c (drop at t))

module _ (t : Text) (at c i : ℕ) where
  pub looked_all : length t ≤ i → Looked t at c i → None ≡ further at (index_of c (drop at t))
  unfolding index_of
  looked_all h inv = rw (drop_of_length-le t h) at inv

  module _ (h : i < length t) where
    pub looked_found : get_or t i 0 ≡ c → Looked t at c i → Some i ≡ further at (index_of c (drop at t))
    looked_found e inv =
        let z : i + 0 ≡ i = omega arith in
        rw z at (rw (drop-cons t i 0 h, index_here c (get_or t i 0) (drop (suc i) t) (eq-eqb (get_or t i 0) c e)) at inv)

    pub looked_more : (get_or t i 0 ≡ c → ⊥) → Looked t at c i → Looked t at c (i + 1)
    looked_more d inv = sym (further_more i (index_of c (drop (i + 1) t))) ∙ rw (add-one i) (rw (drop-cons t i 0 h, index_later c (get_or t i 0) (drop (suc i) t) (ne_eqb (get_or t i 0) c d)) at inv)

further_zero : (x : Option ℕ) → further 0 x ≡ x
further_zero None = refl
further_zero (Some i) = ap Some (omega arith)

pub found_whole : (t : Text) (c : ℕ) (r : Option ℕ) → r ≡ further 0 (index_of c (drop 0 t)) → r ≡ index_of c t
found_whole t c r e = e ∙ further_zero (index_of c t)
