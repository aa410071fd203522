-- One of several files. Assumes nothing.
use Rattle.std.proofs.Common.{◌≡◌, ℕ, zero, suc, List, [], length, take, refl, subst}
use Rattle.std.specs.Prelude.{None, Some, Result, Ok, Err, IfErr, OnOk, ⊤}
use Rattle.rules.specs.Text.{Text}
use Rattle.cli_error.specs.declared.What.{What}
use Rattle.cli_error.specs.declared.Answer.{Answer}
use Rattle.cli_error.specs.Fault.{failed}
use Rattle.cli_error.specs.Answered.{failure_of}
use Rattle.cli_error.specs.Gives.{Gives}
use Rattle.cli_run.specs.From.{From, standard, file, again}
use Rattle.cli_run.specs.Input.{Named, IsOf, IsInput}
use Rattle.cli_run.specs.Items.{item, unread, Rest, rest_of, Settles}
use Rattle.cli_run.specs.declared.input.Input.{Input}
use Rattle.cli_io.specs.World.{World, input_name}
use Rattle.cli_io.specs.Answers.{ReadsFrom}
use Rattle.cli_io.specs.Added.{from_name, SourceRead, SourceNotRead, GoesOn, Stops}
use Rattle.cli_io.proofs.Steps.{input_read}

none_of : {A : Type 0} (n : ℕ) (xs : List A) → take n [] ≡ take 0 xs
none_of zero xs = refl
none_of (suc n) xs = refl

module _ {H : Type 0} (w : World H) (old new : H) where
  -- what was kept of it is an input
  pub source_read : (x : From) (front : List ℕ) (total k : ℕ) (i : Input) → length front ≡ k → SourceRead w old new x front total
      → i.name.now ≡ from_name x → ((b : Text) → total ≡ length b → take (length front) b ≡ take total front → IsOf (length front) b i.contents)
      → (b : Named) × ReadsFrom w x old new (item b) × IsInput k b i
  source_read standard front total k i l r e y = input_read w old new None front total k i l r e y
  source_read (file n) front total k i l r e y = input_read w old new (Some n) front total k i l r e y
  source_read again front total k i l r e y = (
    record { name = input_name None; text = [] },
    (r.0, refl),
    record { name = e; text = subst (λ (m : ℕ). IsOf m [] i.contents) l (y [] r.1 (rw r.1 (none_of (length front) front))) },
  )

  -- the answer says that it was not read
  pub source_unread : (x : From) (a : Answer) → SourceNotRead w old new x a
      → (what : What) × (reason : Text) × ReadsFrom w x old new (record { name = from_name x; found = unread what reason })
      × Gives (failure_of (failed what (from_name x) reason)) a
  source_unread standard a u = (u.0, u.1, (refl, u.2), u.3)
  source_unread (file n) a u = (u.0, u.1, (refl, u.2), u.3)
  source_unread again a u = absurd u

  module _ (x : From) (f : Rest) (b : Named) (r : ReadsFrom w x old new (item b)) where
    pub goes_on : (k : Rest → Type 0) (o : Result ⊤ Answer) → OnOk o (k (rest_of f b)) → OnOk o (GoesOn w k f x old new)
    goes_on k (Ok u) p = (item b, r, p)
    goes_on k (Err a) p = tt

    pub stops : (o : Result ⊤ Answer) → IfErr o (Settles (rest_of f b)) → IfErr o (Stops w f x old new)
    stops (Ok u) p = tt
    stops (Err a) p = (item b, r, p)
