-- Texts one after the other. Assumes nothing.
use Rattle.std.proofs.Common.{◌≡◌, Bool, true, false, List, [], ◌∷◌, ◌++◌, map, find, refl}
use Rattle.std.specs.Prelude.{Option, option_map}
use Rattle.std.proofs.lemmas.List.{append-nil}
use Rattle.rules.specs.Text.{Text}

-- what is written after a text that ends in nothing
pub nothing_between : (t a r : Text) → t ≡ a ++ [] → t ++ r ≡ a ++ r
nothing_between t a r e = rw (e, append-nil a) refl

-- the first that passes a test of its text, as it is found among the texts
step : {A : Type 0} (f : A → Text) (p : Text → Bool) (x : A) (xs : List A) (b : Bool) → p (f x) ≡ b → option_map f (find (λ x. p (f x)) xs) ≡ find p (map f xs) → option_map f (find (λ x. p (f x)) (x ∷ xs)) ≡ find p (map f (x ∷ xs))
step f p x xs true e h = rw e refl
step f p x xs false e h = rw e h

found_in : {A : Type 0} (f : A → Text) (p : Text → Bool) (xs : List A) → option_map f (find (λ x. p (f x)) xs) ≡ find p (map f xs)
found_in f p [] = refl
found_in f p (x ∷ xs) = step f p x xs (p (f x)) refl (found_in f p xs)

pub found_at : {A : Type 0} (f : A → Text) (p : Text → Bool) (xs : List A) (r : Option A) → r ≡ find (λ x. p (f x)) xs → option_map f r ≡ find p (map f xs)
found_at f p xs r e = rw e (found_in f p xs)
