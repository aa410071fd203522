-- Laws of lists that the library has not, of a property of all elements. Assumes nothing.
use Rattle.std.specs.Prelude.{Some, option_map, slice_get}
use Rattle.std.proofs.lemmas.Option.{same_Some, none-some}
use Prim.Native.Nat.{ℕ, zero, suc}
use mathlib.Core.Path.{◌≡◌, refl, sym, subst}
use mathlib.Core.List.{List, [], ◌∷◌, map, flat_map, ◌++◌, append_assoc, map-append}

-- each element has the property
abbrev pub All : {A : Type 0} → (A → Type 0) → List A → Type 0
All P [] = Unit {0}
All P (x ∷ xs) = P x × All P xs

-- of two lists one after the other, at an index, of the lists of a list
module _ {B : Type 0} (Q : B → Type 0) where
  pub all_append : (xs ys : List B) → All Q xs → All Q ys → All Q (xs ++ ys)
  all_append [] ys h k = k
  all_append (x ∷ xs) ys h k = (h.0, all_append xs ys h.1 k)

  pub all_at : (xs : List B) (i : ℕ) (x : B) → All Q xs → slice_get xs i ≡ Some x → Q x
  all_at [] i x h e = absurd (none-some x e)
  all_at (y ∷ ys) zero x h e = subst Q (same_Some y x e) h.0
  all_at (y ∷ ys) (suc i) x h e = all_at ys i x h.1 e

  pub all_flat_map : {A : Type 0} (P : A → Type 0) (f : A → List B) → ((x : A) → P x → All Q (f x)) → (xs : List A) → All P xs → All Q (flat_map f xs)
  unfolding flat_map
  all_flat_map P f e [] h = tt
  all_flat_map P f e (x ∷ xs) h = all_append (f x) (flat_map f xs) (e x h.0) (all_flat_map P f e xs h.1)

-- `flat_map` of two lists, one after the other
pub flat_map_append : {A B : Type 0} (f : A → List B) (xs ys : List A) → flat_map f (xs ++ ys) ≡ flat_map f xs ++ flat_map f ys
unfolding flat_map
flat_map_append f [] ys = refl
flat_map_append f (x ∷ xs) ys = rw (flat_map_append f xs ys) (sym (append_assoc (f x) (flat_map f xs) (flat_map f ys)))

-- `flat_map` after a map g, where f after g is a map h after f'
pub flat_map_by : {A B : Type 0} (g : A → A) (h : B → B) (f f' : A → List B) → ((x : A) → f (g x) ≡ map h (f' x)) → (xs : List A) → flat_map f (map g xs) ≡ map h (flat_map f' xs)
unfolding flat_map
flat_map_by g h f f' e [] = refl
flat_map_by g h f f' e (x ∷ xs) = rw (map-append, e x, flat_map_by g h f f' e xs)

-- the element at an index of a mapped list
pub slice_get-mapped : {A B : Type 0} (f : A → B) (xs : List A) (i : ℕ) → slice_get (map f xs) i ≡ option_map f (slice_get xs i)
slice_get-mapped f [] i = refl
slice_get-mapped f (x ∷ xs) zero = refl
slice_get-mapped f (x ∷ xs) (suc i) = slice_get-mapped f xs i

-- by another property
pub all_by : {A : Type 0} (P Q : A → Type 0) → ((x : A) → P x → Q x) → (xs : List A) → All P xs → All Q xs
all_by P Q f [] h = tt
all_by P Q f (x ∷ xs) h = (f x h.0, all_by P Q f xs h.1)
