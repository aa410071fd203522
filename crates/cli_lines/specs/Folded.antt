-- Several scripts, of each of which something is made. Assumes nothing.
use Rattle.std.specs.Prelude.{◌≡◌, List, [], ◌∷◌, ◌++◌, Option}
use Rattle.rules.specs.Answer.{Answer, accepted, refused}
use Rattle.cli_error.specs.Answered.{Answered, failure_of}
use Rattle.cli_run.specs.Input.{Named}
use Rattle.cli_run.specs.Items.{Item, Rest, with_item}
use Rattle.cli_run.specs.Told.{blamed}

module _ {A : Type 0} (t : Option Named) (part : Named → Answer A) where
  -- k of what is made of the script b; or the call ends with its refusal, or that of the branch table t
  abbrev pub on_script : Named → Answer A → (A → Answered) → Answered
  on_script b (accepted x) k = k x
  on_script b (refused n p) k = failure_of (blamed 32768 t b n p)

  -- k of what is made of each, in their order; or the call ends with the first script that is not read or is refused
  abbrev pub each_of : (List A → Answered) → List Item → Answered
  each_of k [] = k []
  each_of k (i ∷ is) = with_item failure_of (λ b. on_script b (part b) (λ x. each_of (λ xs. k (x ∷ xs)) is)) i

  -- of all scripts f answers what `whole` answers of them: `done` was made of those so far, and f is a function of those that are left
  pub record Continues (whole : List A → Answered) (done : List A) (f : Rest) : Type 0 where
    pub of_left : List A → Answered
    pub all : (xs : List A) → of_left xs ≡ whole (done ++ xs)
    pub rest : (is : List Item) → f is ≡ each_of of_left is
