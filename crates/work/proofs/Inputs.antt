-- The names of files as inputs, one after another. Assumes nothing.
use Rattle.std.proofs.Common.{◌≡◌, ◌∙◌, ℕ, zero, suc, ◌+◌, ◌<◌, ◌≤◌, List, [], ◌∷◌, ◌++◌, length, get_or, drop, map, sym, refl, ap, arith, add-one, drop_of_length-le, drop-cons}
use Rattle.std.specs.Prelude.{Option, None}
use Rattle.std.proofs.lemmas.List.{append_assoc, append-nil}
use Rattle.rules.specs.Text.{Text}
use Rattle.asked.specs.Names.{input_of}
use Rattle.work.specs.Calls.{all_inputs}

module _ {A B C : Type 0} (f : A → C) (g : B → C) where
  map_behind : (l : List B) (x : B) → map g (l ++ x ∷ []) ≡ map g l ++ g x ∷ []
  map_behind [] x = refl
  map_behind (y ∷ l) x = ap (λ t. g y ∷ t) (map_behind l x)

  -- those of xs from k on are left
  abbrev pub Rest : List A → ℕ → List B → Type 0
  Rest xs k l = map f xs ≡ map g l ++ map f (drop k xs)

  pub first : (xs : List A) → Rest xs 0 []
  first xs = refl

  pub next : (xs : List A) (k : ℕ) (old new : List B) (x : B) (d : A) → Rest xs k old → k < length xs → new ≡ old ++ x ∷ [] → g x ≡ f (get_or xs k d) → Rest xs (k + 1) new
  next xs k old new x d r h e v =
      r ∙ rw (drop-cons xs k d, ← v, add-one k, e, map_behind old x) (sym (append_assoc (map g old) (g x ∷ []) (map f (drop (suc k) xs))))

  pub last : (xs : List A) (k : ℕ) (l : List B) → Rest xs k l → length xs ≤ k → map g l ≡ map f xs
  last xs k l r h = sym (r ∙ rw (drop_of_length-le xs h) (append-nil (map g l)))

-- where none is named it is standard input
pub none_named : {A : Type 0} (now : A → Text) (xs : List A) → length xs ≡ 0 → None ∷ [] ≡ all_inputs (map now xs)
none_named now [] h = refl
none_named now (x ∷ xs) h = absurd (omega arith)

map_twice : {A : Type 0} (now : A → Text) (xs : List A) → map (λ n. input_of (now n)) xs ≡ map input_of (map now xs)
map_twice now [] = refl
map_twice now (x ∷ xs) = ap (λ t. input_of (now x) ∷ t) (map_twice now xs)

pub some_named : {A : Type 0} (now : A → Text) (xs : List A) (l : List (Option Text)) → 0 < length xs → l ≡ map (λ n. input_of (now n)) xs → l ≡ all_inputs (map now xs)
some_named now [] l h e = absurd (omega arith)
some_named now (x ∷ xs) l h e = e ∙ ap (λ t. input_of (now x) ∷ t) (map_twice now xs)
