-- Files that were read. Assumes nothing.
use Rattle.std.proofs.Common.{◌≡◌, ℕ, List, length, take, refl, subst}
use Rattle.std.specs.Prelude.{Option, None, Some, option_map}
use Rattle.rules.specs.Text.{Text}
use Rattle.cli_run.specs.Input.{Named, IsOf, IsInput, IsTable}
use Rattle.cli_run.specs.Items.{item, unread}
use Rattle.cli_run.specs.declared.input.Input.{Input}
use Rattle.cli_io.specs.World.{World, input_name, WasRead}
use Rattle.cli_error.specs.Fault.{failed}
use Rattle.cli_error.specs.Answered.{Answered, failure_of}
use Rattle.cli_error.specs.Gives.{Gives}
use Rattle.cli_error.specs.declared.Answer.{Answer}
use Rattle.cli_io.specs.Answers.{Reads, ReadsTable, OnTable, WithTable}
use Rattle.cli_io.specs.Tabled.{TableRead, TableNotRead, IsTabled}

module _ {H : Type 0} (w : World H) (old new : H) where
  -- what was kept of a file is an input
  pub input_read : (n : Option Text) (front : List ℕ) (total k : ℕ) (i : Input) → length front ≡ k → WasRead (w.reads old new n) front total
      → i.name.now ≡ input_name n → ((b : Text) → total ≡ length b → take (length front) b ≡ take total front → IsOf (length front) b i.contents)
      → (b : Named) × Reads w n old new (item b) × IsInput k b i
  input_read n front total k i l r x y = (
    record { name = input_name n; text = r.text },
    (refl, r.fact),
    record { name = x; text = subst (λ (m : ℕ). IsOf m r.text i.contents) l (y r.text r.total r.front_of) },
  )

  -- a table
  pub table_read : (n : Option Text) (front : List ℕ) (total : ℕ) (o : Option Input) → TableRead w old new n front total → IsTabled n front total o
      → (t : Option Named) × ReadsTable w n old new (option_map item t) × IsTable t o
  table_read None front total o r e = (None, r, rw e tt)
  table_read (Some name) front total o r e = (Some (record { name = name; text = r.text }), (refl, r.fact), e r.text r.total r.front_of)

  -- what is so of the table that was read
  pub on_table : (mid : H) (a : Answered) (k : Option Named → Type 0) (t : Option Named) → k t → OnTable w new a mid k (option_map item t)
  on_table mid a k None p = p
  on_table mid a k (Some t) p = p

  -- a table that was not read ends the call
  pub table_unread : (n : Option Text) (r : Answer) → TableNotRead w old new n r
      → (k : H → Answered → Option Named → Type 0) → (a : Answered) × WithTable w new a n old (λ m t. k m a t) × Gives a r
  table_unread None r u k = absurd u
  table_unread (Some name) r u k =
      (failure_of (failed u.0 name u.1), (Some (record { name = name; found = unread u.0 u.1 }), new, (refl, u.2), (refl, refl)), u.3)
