-- Laws of a text that is cut at a byte, one part after another. Assumes nothing.
use Rattle.std.proofs.Common.{◌≡◌, ◌∙◌, ℕ, suc, ◌+◌, ◌-◌, ◌<◌, ◌≤◌, List, [], ◌∷◌, ◌++◌, length, take, drop, map, sym, refl, ap, arith, add-one}
use Rattle.std.specs.Prelude.{Option, None, Some, IfSome}
use Rattle.std.proofs.lemmas.List.{append_assoc, map_push, take_rest}
use lib.ListN.{length-drop}
use Rattle.rules.specs.Text.{Text, cut_at}
use Rattle.text.specs.Find.{index_of}
use Rattle.text.proofs.Find.{indexed, unindexed}

pub within : (c : ℕ) (s : Text) (r : Option ℕ) → r ≡ index_of c s → IfSome r (λ n. n < length s)
within c s None e = tt
within c s (Some n) e = (indexed c s n (sym e)).within

nowhere : (c : ℕ) (t : Text) → length t ≤ 0 → index_of c t ≡ None
unfolding index_of
nowhere c [] g = refl
nowhere c (b ∷ t) g = absurd (omega arith)

-- what is left of the text comes after the parts, and is no longer than the turns that are left
pub record Cut {A : Type 0} (now : A → Text) (c : ℕ) (text : Text) (k : ℕ) (parts : List A) (rest : Text) : Type 0 where
  pub left : cut_at c text ≡ map now parts ++ cut_at c rest
  pub turns : length rest + k ≤ length text

module _ {A : Type 0} (now : A → Text) (c : ℕ) (text : Text) where
  pub begun : Cut now c text 0 [] text
  begun = record { left = refl; turns = omega arith }

  module _ (k : ℕ) (parts : List A) (rest : Text) (r : Cut now c text k parts rest) where
    pub more : (new : List A) (p : A) (n : ℕ) → index_of c rest ≡ Some n → new ≡ parts ++ p ∷ [] → now p ≡ take n rest → Cut now c text (k + 1) new (take (length rest - (n + 1)) (drop (n + 1) rest))
    more new p n i e q =
        let x = indexed c rest n i in
        let b : take (length rest - (n + 1)) (drop (n + 1) rest) ≡ drop (suc n) rest = take_rest rest (n + 1) ∙ ap (λ j. drop j rest) (add-one n) in
        let y : cut_at c rest ≡ now p ∷ cut_at c (drop (suc n) rest) = rw q x.parts in
        let l : length (drop (suc n) rest) ≡ length rest - suc n = length-drop (suc n) rest in
        rw b (record {
          left = r.left ∙ rw (y, e, map_push now parts p) (sym (append_assoc (map now parts) (now p ∷ []) (cut_at c (drop (suc n) rest))));
          turns = omega (arith, x.within, r.turns, l);
        })

    pub done : (new : List A) (p : A) → index_of c rest ≡ None → new ≡ parts ++ p ∷ [] → now p ≡ rest → map now new ≡ cut_at c text
    done new p i e q = rw (e, map_push now parts p, q) (sym (r.left ∙ ap (λ t. map now parts ++ t) (unindexed c rest i).parts))

    pub ended : (new : List A) (p : A) → length text ≤ k → new ≡ parts ++ p ∷ [] → now p ≡ rest → map now new ≡ cut_at c text
    ended new p h e q = done new p (nowhere c rest (omega (arith, r.turns))) e q
