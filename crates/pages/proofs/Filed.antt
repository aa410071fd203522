-- Laws of the files of an example, one after another. Assumes nothing.
use Rattle.std.proofs.Common.{◌≡◌, ◌∙◌, ℕ, suc, ◌+◌, ◌-◌, ◌<◌, ◌≤◌, List, [], ◌∷◌, ◌++◌, length, get_or, take, drop, map, sym, refl, ap, arith, add-one, drop_of_length-le, drop-cons, true, false}
use Rattle.std.specs.Prelude.{None, Some}
use Rattle.std.proofs.lemmas.List.{append_assoc, append-nil, map_push, take_rest}
use Rattle.rules.specs.Text.{Text, same, first_text, other_texts}
use Rattle.pages.specs.Files.{Named, byte, filed, file, held}

map_twice : {A B C : Type 0} (f : B → C) (g : A → B) (xs : List A) → map (λ x. f (g x)) xs ≡ map f (map g xs)
map_twice f g [] = refl
map_twice f g (x ∷ xs) = ap (λ t. f (g x) ∷ t) (map_twice f g xs)

module _ {A : Type 0} (now : A → Text) where
  pub none_filed : (xs : List A) → length xs ≡ 0 → ◌≡◌ {A = Named} (record { name = []; bytes = [] }) (filed (map now xs))
  unfolding first_text other_texts
  none_filed [] h = refl
  none_filed (x ∷ xs) h = absurd (omega arith)

  pub one_filed : (xs : List A) (d : A) (b : Text) → 1 ≤ length xs → b ≡ map (λ p. byte (now p)) (take (length xs - 1) (drop 1 xs)) → ◌≡◌ {A = Named} (record { name = now (get_or xs 0 d); bytes = b }) (filed (map now xs))
  unfolding first_text other_texts
  one_filed [] d b h e = absurd (omega arith)
  one_filed (x ∷ xs) d b h e =
      let q : b ≡ map byte (map now xs) = e ∙ ap (map (λ p. byte (now p))) (take_rest (x ∷ xs) 1) ∙ map_twice byte now xs in
      rw q refl

module _ {A E : Type 0} (now : A → Text) (view : E → Named) where
  -- the files of the rows from k on are left
  abbrev pub Rest : List A → ℕ → List E → Type 0
  Rest xs k l = map file (map now xs) ≡ map view l ++ map file (map now (drop k xs))

  pub first : (xs : List A) → Rest xs 0 []
  first xs = refl

  pub next : (xs : List A) (k : ℕ) (old new : List E) (x : E) (d : A) → Rest xs k old → k < length xs → new ≡ old ++ x ∷ [] → view x ≡ file (now (get_or xs k d)) → Rest xs (k + 1) new
  next xs k old new x d r h e v =
      r ∙ rw (drop-cons xs k d h, ← v, add-one k, e, map_push view old x) (sym (append_assoc (map view old) (view x ∷ []) (map file (map now (drop (suc k) xs)))))

  pub last : (xs : List A) (k : ℕ) (l : List E) → Rest xs k l → length xs ≤ k → map view l ≡ map file (map now xs)
  last xs k l r h = sym (r ∙ rw (drop_of_length-le xs h) (append-nil (map view l)))

module _ (n : Text) (f : Named) (fs : List Named) where
  held_here : same f.name n ≡ true → held n (f ∷ fs) ≡ Some f.bytes
  unfolding held
  held_here e = rw (e, held)

  held_later : same f.name n ≡ false → held n (f ∷ fs) ≡ held n fs
  unfolding held
  held_later e = rw (e, held)

-- a name is not that of the first k files
abbrev pub Sought : {E : Type 0} → Text → (E → Named) → List E → ℕ → Type 0
Sought n view xs k = held n (map view (drop k xs)) ≡ held n (map view xs)

module _ {E : Type 0} (n : Text) (view : E → Named) (xs : List E) where
  pub sought_first : Sought n view xs 0
  sought_first = refl

  pub sought_here : (k : ℕ) (d : E) → k < length xs → same (view (get_or xs k d)).name n ≡ true → Sought n view xs k → Some (view (get_or xs k d)).bytes ≡ held n (map view xs)
  sought_here k d h e r = sym (held_here n (view (get_or xs k d)) (map view (drop (suc k) xs)) e) ∙ rw (drop-cons xs k d h) at r

  pub sought_later : (k : ℕ) (d : E) → k < length xs → same (view (get_or xs k d)).name n ≡ false → Sought n view xs k → Sought n view xs (k + 1)
  sought_later k d h e r = rw (add-one k) (sym (held_later n (view (get_or xs k d)) (map view (drop (suc k) xs)) e) ∙ rw (drop-cons xs k d h) at r)

  pub sought_nowhere : (k : ℕ) → length xs ≤ k → Sought n view xs k → None ≡ held n (map view xs)
  unfolding held
  sought_nowhere k h r = rw (drop_of_length-le xs h) at r

-- the numbers of those of xs from k on are left
module _ {A : Type 0} (f : A → ℕ) (xs : List A) where
  abbrev pub Mapped : ℕ → List ℕ → Type 0
  Mapped k l = map f xs ≡ l ++ map f (drop k xs)

  pub mapped_first : Mapped 0 []
  mapped_first = refl

  pub mapped_next : (k : ℕ) (d : A) (old new : List ℕ) → Mapped k old → k < length xs → new ≡ old ++ f (get_or xs k d) ∷ [] → Mapped (k + 1) new
  mapped_next k d old new r h e =
      r ∙ rw (drop-cons xs k d h, add-one k, e) (sym (append_assoc old (f (get_or xs k d) ∷ []) (map f (drop (suc k) xs))))

  pub mapped_last : (k : ℕ) (l : List ℕ) → Mapped k l → length xs ≤ k → l ≡ map f xs
  mapped_last k l r h = sym (r ∙ rw (drop_of_length-le xs h) (append-nil l))
