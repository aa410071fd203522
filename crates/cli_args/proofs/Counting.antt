-- What passes a test, counted. Assumes nothing.
use Rattle.std.proofs.Common.{◌≡◌, ◌+◌, Bool, cond, List, [], ◌∷◌, map, refl, ap}
use Rattle.std.specs.List.{count_by}
use Rattle.std.proofs.lemmas.List.Sums.{sum_by-cons}

pub count_of_map : {A B : Type 0} (p : B → Bool) (f : A → B) (xs : List A) → count_by (λ x. p (f x)) xs ≡ count_by p (map f xs)
count_of_map p f [] = refl
count_of_map p f (x ∷ xs) =
    rw (sum_by-cons (λ x. cond (p (f x)) 1 0) x xs, sum_by-cons (λ y. cond (p y) 1 0) (f x) (map f xs)) (ap (λ n. cond (p (f x)) 1 0 + n) (count_of_map p f xs))
