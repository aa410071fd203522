-- Laws of the parts of lines that count, one under another. Assumes nothing.
use Rattle.std.proofs.Common.{◌≡◌, ◌∙◌, ℕ, ◌+◌, ◌-◌, ◌<◌, ◌≤◌, List, [], ◌∷◌, ◌++◌, length, get_or, take, drop, map, sym, refl, add-one, drop_of_length-le, drop-cons}
use Rattle.std.specs.Prelude.{min}
use Rattle.std.proofs.lemmas.List.{append_assoc, append-nil, drop_min, take_rest}
use Rattle.rules.specs.Text.{Text}
use Rattle.pages.specs.Texts.{under}

pub dropped : (n : ℕ) (t : Text) → take (length t - min n (length t)) (drop (min n (length t)) t) ≡ drop n t
dropped n t = take_rest t (min n (length t)) ∙ drop_min n t

-- those of the lines from k on are left
abbrev pub Under : {A : Type 0} → (Text → Text) → (A → Text) → List A → ℕ → Text → Type 0
Under f now xs k t = under f (map now xs) ≡ t ++ under f (map now (drop k xs))

module _ {A : Type 0} (f : Text → Text) (now : A → Text) (xs : List A) where
  pub under_first : Under f now xs 0 []
  under_first = refl

  pub under_next : (k : ℕ) (d : A) (old mid new p : Text) → k < length xs → mid ≡ old ++ 10 ∷ [] → p ≡ f (now (get_or xs k d)) → new ≡ mid ++ p → Under f now xs k old → Under f now xs (k + 1) new
  unfolding under
  under_next k d old mid new p h e q g r =
      let s : under f (map now (drop k xs)) ≡ 10 ∷ (p ++ under f (map now (drop (k + 1) xs))) = rw (drop-cons xs k d h, q, add-one k) refl in
      r ∙ rw (s, g, e, append_assoc (old ++ 10 ∷ []) p (under f (map now (drop (k + 1) xs)))) (sym (append_assoc old (10 ∷ []) (p ++ under f (map now (drop (k + 1) xs)))))

  pub under_last : (k : ℕ) (t : Text) → length xs ≤ k → Under f now xs k t → t ≡ under f (map now xs)
  unfolding under
  under_last k t h r = sym (r ∙ rw (drop_of_length-le xs h) (append-nil t))
