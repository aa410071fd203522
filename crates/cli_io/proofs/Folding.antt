-- Several files, added one after another. Assumes nothing.
use Rattle.std.proofs.Common.{◌≡◌, ◌<◌, ◌≤◌, ◌+◌, ◌∷◌, ℕ, List, [], map, drop, length, get_or, add-one, drop-cons, drop_of_length-le, refl, sym, subst, ◌∙◌, inl, inr}
use Rattle.std.specs.Prelude.{◌⊎◌}
use Rattle.cli_error.specs.Answered.{Answered, out_of_memory}
use Rattle.cli_error.specs.Gives.{Gives}
use Rattle.cli_error.specs.declared.Answer.{Answer}
use Rattle.cli_error.specs.declared.Answer.TheVariants as A
use Rattle.cli_run.specs.From.{From}
use Rattle.cli_run.specs.Items.{Item, Rest}
use Rattle.cli_io.specs.World.{World}
use Rattle.cli_io.specs.Answers.{Answers, Folds}
use Rattle.cli_io.specs.Added.{GoesOn, Stops}

-- an answer that does not depend on what is left; or there was no memory
settled : (f : Rest) (r : Answer) → ((left : List Item) → Gives (f left) r)
    → (a : Answered) × (((left : List Item) → f left ≡ a) ⊎ (a ≡ out_of_memory)) × Gives a r
settled f (A.Output t s) g = (f [], inl (λ left. g left ∙ sym (g [])), g [])
settled f (A.Failure t s) g = (f [], inl (λ left. g left ∙ sym (g [])), g [])
settled f A.NoMemory g = (out_of_memory, inr refl, tt)

-- of all the files some are left, and the call comes to what k answers of them
module _ {H S : Type 0} (w : World H) (answers : S → Rest → Type 0) (first : S) (all : List From) (old : H) where
  pub record Added (left : List From) (s : S) (now : H) : Type 0 where
    pub so_far : (f : Rest) → answers first f
        → (k : Rest) × answers s k × ((new : H) (a : Answered) → Folds w k left now new a → Folds w f all old new a)

  module _ (x : From) (xs left : List From) (e : xs ≡ x ∷ left) (s : S) (now mid : H) (so : Added xs s now) where
    pub one_added : (t : S) → ((f : Rest) → answers s f → GoesOn w (answers t) f x now mid) → Added left t mid
    unfolding Folds
    one_added t more =
        record {
          so_far = λ f p.
              let q = (subst (λ l. Added l s now) e so).so_far f p in
              let m = more q.0 q.1 in
              ((λ rest. q.0 (m.0 ∷ rest)), m.2, λ new a z. q.2 new a (m.0, mid, m.1, inr (inr z)));
        }

    pub ended_at : (r : Answer) → ((f : Rest) → answers s f → Stops w f x now mid r) → (f : Rest) → answers first f → Answers (Folds w f all) old mid r
    unfolding Folds
    ended_at r stop f p =
        let q = (subst (λ l. Added l s now) e so).so_far f p in
        let m = stop q.0 q.1 in
        let z = settled (λ rest. q.0 (m.0 ∷ rest)) r m.2 in
        (z.0, q.2 mid z.0 (m.0, mid, m.1, elim z.1 [ inl same ↦ inl (refl, same) | inr none ↦ inr (inl (refl, none)) ]), z.2)

  pub all_added : (xs : List From) → xs ≡ [] → (s : S) (now : H) (r : Answer) → Added xs s now → ((f : Rest) → answers s f → Gives (f []) r)
      → (f : Rest) → answers first f → Answers (Folds w f all) old now r
  unfolding Folds
  all_added xs e s now r so end f p =
      let q = (subst (λ l. Added l s now) e so).so_far f p in
      (q.0 [], q.2 now (q.0 []) (refl, refl), end q.0 q.1)

pub none_added : {H S : Type 0} (w : World H) (answers : S → Rest → Type 0) (first : S) (all : List From) (old : H) → Added w answers first all old all first old
none_added w answers first all old = record { so_far = λ f p. (f, p, λ new a z. z) }

-- those that are left
module _ {X Y : Type 0} (s : X → Y) (xs : List X) (i : ℕ) where
  pub left_more : (d : X) → i < length xs → map s (drop i xs) ≡ s (get_or xs i d) ∷ map s (drop (i + 1) xs)
  left_more d h = rw (drop-cons xs i d h, add-one i) refl

  pub left_none : length xs ≤ i → map s (drop i xs) ≡ []
  left_none h = rw (drop_of_length-le xs h) refl
