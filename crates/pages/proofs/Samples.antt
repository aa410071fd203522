-- Laws of the examples of lines, one line after another. Assumes nothing.
use Rattle.std.proofs.Common.{◌≡◌, ◌∙◌, ℕ, suc, ◌+◌, ◌-◌, ◌<◌, ◌≤◌, List, [], ◌∷◌, ◌++◌, length, get_or, take, drop, map, sym, refl, ap, add-one, drop_of_length-le, drop-cons, true, false}
use Rattle.std.proofs.lemmas.List.{append_assoc, append-nil, map_push, take_rest}
use Rattle.rules.specs.Text.{Text}
use Rattle.pages.specs.Page.{begins, Sample, sample, samples, with_rest}

module _ (l : Text) (ls : List Text) where
  samples_here : begins l ≡ true → samples (l ∷ ls) ≡ sample l ls ∷ samples ls
  unfolding samples
  samples_here e = rw (e, samples)

  samples_later : begins l ≡ false → samples (l ∷ ls) ≡ samples ls
  unfolding samples
  samples_later e = rw (e, samples)

-- the examples es are those of the lines before k
abbrev pub Left : {A E : Type 0} → (A → Text) → (E → Sample) → List A → ℕ → List E → Type 0
Left now view xs k es = samples (map now xs) ≡ with_rest now view xs k es

module _ {A E : Type 0} (now : A → Text) (view : E → Sample) (xs : List A) where
  pub first : Left now view xs 0 []
  first = refl

  pub one_begins : (k : ℕ) (d : A) (old new : List E) (e : E) → k < length xs → begins (now (get_or xs k d)) ≡ true → new ≡ old ++ e ∷ [] → view e ≡ sample (now (get_or xs k d)) (map now (take (length xs - (k + 1)) (drop (k + 1) xs))) → with_rest now view xs (k + 1) new ≡ with_rest now view xs k old
  one_begins k d old new e h b p u =
      let q : view e ≡ sample (now (get_or xs k d)) (map now (drop (k + 1) xs)) = u ∙ ap (λ t. sample (now (get_or xs k d)) (map now t)) (take_rest xs (k + 1)) in
      let s : samples (map now (drop k xs)) ≡ view e ∷ samples (map now (drop (k + 1) xs)) = rw (drop-cons xs k d h, q, add-one k) (samples_here (now (get_or xs k d)) (map now (drop (suc k) xs)) b) in
      rw (s, p, map_push view old e) (append_assoc (map view old) (view e ∷ []) (samples (map now (drop (k + 1) xs))))

  pub no_begin : (k : ℕ) (d : A) (old : List E) → k < length xs → begins (now (get_or xs k d)) ≡ false → with_rest now view xs (k + 1) old ≡ with_rest now view xs k old
  no_begin k d old h b =
      let s : samples (map now (drop k xs)) ≡ samples (map now (drop (k + 1) xs)) = rw (drop-cons xs k d h, add-one k) (samples_later (now (get_or xs k d)) (map now (drop (suc k) xs)) b) in
      sym (ap (λ t. map view old ++ t) s)

  pub next : (k : ℕ) (old new : List E) → with_rest now view xs (k + 1) new ≡ with_rest now view xs k old → Left now view xs k old → Left now view xs (k + 1) new
  next k old new s r = r ∙ sym s

  pub last : (k : ℕ) (l : List E) → length xs ≤ k → Left now view xs k l → map view l ≡ samples (map now xs)
  unfolding samples
  last k l h r = sym (r ∙ rw (drop_of_length-le xs h) (append-nil (map view l)))
