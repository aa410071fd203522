-- Laws of lines that pass a test, one after another, and of an example's parts. Assumes nothing.
use Rattle.std.proofs.Common.{◌≡◌, ◌∙◌, ℕ, suc, ◌+◌, ◌<◌, ◌≤◌, List, ◌∷◌, length, get_or, take, drop, map, sym, refl, ap, arith, add-one, drop_of_length-le, drop-cons, Bool, true, false}
use Rattle.std.proofs.lemmas.List.{take-map, drop-map}
use Rattle.rules.specs.Text.{Text}
use Rattle.pages.specs.Page.{passing, front, behind, Sample, sample, is_file, is_input, is_wanted}

module _ (f : Text → Bool) (l : Text) (ls : List Text) where
  passing_later : f l ≡ true → passing f (l ∷ ls) ≡ suc (passing f ls)
  unfolding passing
  passing_later e = rw (e, passing)

  passing_here : f l ≡ false → passing f (l ∷ ls) ≡ 0
  unfolding passing
  passing_here e = rw (e, passing)

-- the first k lines pass
abbrev pub Passed : {A : Type 0} → (Text → Bool) → (A → Text) → List A → ℕ → Type 0
Passed f now xs k = passing f (map now xs) ≡ k + passing f (map now (drop k xs))

module _ {A : Type 0} (f : Text → Bool) (now : A → Text) (xs : List A) where
  pub none_passed : Passed f now xs 0
  none_passed = omega arith

  pub one_passes : (k : ℕ) (d : A) → k < length xs → f (now (get_or xs k d)) ≡ true → Passed f now xs k → Passed f now xs (k + 1)
  one_passes k d h e r =
      let q : passing f (map now (drop k xs)) ≡ suc (passing f (map now (drop (suc k) xs))) = rw (drop-cons xs k d h) (passing_later f (now (get_or xs k d)) (map now (drop (suc k) xs)) e) in
      let s : passing f (map now xs) ≡ suc k + passing f (map now (drop (suc k) xs)) = omega arith in
      rw (add-one k) s

  pub one_fails : (k : ℕ) (d : A) → k < length xs → f (now (get_or xs k d)) ≡ false → Passed f now xs k → k ≡ passing f (map now xs)
  one_fails k d h e r =
      let q : passing f (map now (drop k xs)) ≡ 0 = rw (drop-cons xs k d h) (passing_here f (now (get_or xs k d)) (map now (drop (suc k) xs)) e) in
      omega arith

  pub all_pass : (k : ℕ) → length xs ≤ k → k ≤ length xs → Passed f now xs k → length xs ≡ passing f (map now xs)
  unfolding passing
  all_pass k h g r =
      let q : passing f (map now (drop k xs)) ≡ 0 = rw (drop_of_length-le xs h) refl in
      omega arith

  front_is : (n : ℕ) (a : List A) → n ≡ passing f (map now xs) → a ≡ take n xs → map now a ≡ front f (map now xs)
  front_is n a p e = rw (e, p) (sym (take-map now (passing f (map now xs)) xs))

  behind_is : (n : ℕ) (a : List A) → n ≡ passing f (map now xs) → a ≡ drop n xs → map now a ≡ behind f (map now xs)
  behind_is n a p e = rw (e, p) (sym (drop-map now (passing f (map now xs)) xs))

same_sample : (l : Text) (a b c x y z : List Text) → a ≡ x → b ≡ y → c ≡ z → ◌≡◌ {A = Sample} (record { line = l; files = a; input = b; wanted = c }) (record { line = l; files = x; input = y; wanted = z })
same_sample l a b c x y z p q r = rw (p, q, r) refl

pub sample_is : {A : Type 0} (now : A → Text) (l : Text) (xs a r b s c : List A) (n m k : ℕ) → n ≡ passing is_file (map now xs) → a ≡ take n xs → r ≡ drop n xs → m ≡ passing is_input (map now r) → b ≡ take m r → s ≡ drop m r → k ≡ passing is_wanted (map now s) → c ≡ take k s → ◌≡◌ {A = Sample} (record { line = l; files = map now a; input = map now b; wanted = map now c }) (sample l (map now xs))
sample_is now l xs a r b s c n m k p ea er q eb es t ec =
    let u : map now r ≡ behind is_file (map now xs) = behind_is is_file now xs n r p er in
    let v : map now s ≡ behind is_input (map now r) = behind_is is_input now r m s q es in
    let w : map now s ≡ behind is_input (behind is_file (map now xs)) = v ∙ ap (λ t. behind is_input t) u in
    same_sample l _ _ _ _ _ _ (front_is is_file now xs n a p ea) (front_is is_input now r m b q eb ∙ ap (λ t. front is_input t) u) (front_is is_wanted now s k c t ec ∙ ap (λ t. front is_wanted t) w)
