-- Laws of the examples that are tried, one after another. Assumes nothing.
use Rattle.std.proofs.Common.{◌≡◌, ℕ, ◌+◌, ◌<◌, ◌≤◌, List, [], ◌∷◌, ◌++◌, length, get_or, take, map, sym, refl, true, false}
use Rattle.std.proofs.lemmas.List.{append-nil, map_push, map_more, take_all}
use Rattle.rules.specs.Text.{Text}
use Rattle.pages.specs.Page.{Sample}
use Rattle.pages.specs.Texts.{holds}
use Rattle.pages.specs.Called.{Gives}
use Rattle.pages.specs.Tried.{Failure, failing, Tried, none, one}

-- the first k examples were tried
abbrev pub TriedTo : {A B : Type 0} → (A → Sample) → (B → Failure) → List A → ℕ → List B → Type 0
TriedTo view told xs k fs = Tried (map view (take k xs)) (map told fs)

module _ {A B : Type 0} (view : A → Sample) (told : B → Failure) where
  pub held : (e : Sample) (got : Text) (fs : List B) → holds e got ≡ true → map told fs ≡ map told fs ++ failing e got
  held e got fs h = rw h (sym (append-nil (map told fs)))

  pub failed : (e : Sample) (got : Text) (old new : List B) (f : B) → holds e got ≡ false → new ≡ old ++ f ∷ [] → told f ≡ record { line = e.line; got = got } → map told new ≡ map told old ++ failing e got
  failed e got old new f h p q = rw (h, p, map_push told old f, q) refl

  pub first : (xs : List A) (fs : List B) → fs ≡ [] → TriedTo view told xs 0 fs
  first xs fs e = rw e none

  pub next : (xs : List A) (k : ℕ) (d : A) (old new : List B) (got : Text) → k < length xs → Gives (view (get_or xs k d)) got → map told new ≡ map told old ++ failing (view (get_or xs k d)) got → TriedTo view told xs k old → TriedTo view told xs (k + 1) new
  next xs k d old new got h g p t = rw (map_more view xs k d h, p) (one (map view (take k xs)) (map told old) (view (get_or xs k d)) got t g)

  pub last : (xs : List A) (k : ℕ) (fs : List B) → length xs ≤ k → TriedTo view told xs k fs → Tried (map view xs) (map told fs)
  last xs k fs h t = rw (take_all k xs h) at t
