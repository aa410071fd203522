-- What `check` answers. Assumes nothing.
use Rattle.std.specs.Prelude.{ℕ, ◌≡◌, Bool, true, false, ◌||◌, cond, eqb, List, [], ◌∷◌, ◌++◌, Option, None, Some, Result, Ok, Err}
use Rattle.rules.specs.Text.{Text}
use Rattle.rules.specs.Answer.{Answer, accepted, refused}
use Rattle.rules.specs.Assemble.{Place}
use Rattle.cli_error.specs.Messages.{accepted_row, refused_row}
use Rattle.cli_error.specs.Fault as Why
use Rattle.cli_error.specs.Answered.{Answered, output_of, failure_of}
use Rattle.cli_error.specs.Gives.{Gives}
use Rattle.cli_error.specs.declared.Answer as Code
use Rattle.cli_run.specs.Input.{Named, IsTable}
use Rattle.cli_run.specs.Items.{Item, with_item, Rest}
use Rattle.cli_run.specs.declared.input.Input.{Input}
use Rattle.cli_lists.specs.Listed.{list_of}
use Rattle.cli_lists.specs.declared.checking.Row.{Row}
use Rattle.cli_lists.specs.declared.checking.Checking.{Checking}

-- what goes on with a row, and whether its script is accepted
abbrev pub Next : Type 0
Next = Text → Bool → Answered

-- the row of a refusal; one of the branch table ends the call
abbrev pub refused_by : Option Named → Text → ℕ → ℕ → Next → Answered
refused_by (Some t) name n p k = cond (eqb n 16 || eqb n 17) (failure_of (Why.refused t.name n p [])) (k (refused_row name n p) false)
refused_by None name n p k = k (refused_row name n p) false

-- the row of the script of this name, by its list
abbrev pub row_of : Option Named → Text → Answer (List Place) → Next → Answered
row_of t name (accepted l) k = k (accepted_row name) true
row_of t name (refused n p) k = refused_by t name n p k

-- the rows so far, whether all are accepted, and the scripts that are left
abbrev pub checked_on : Option Named → ℕ → List Item → Text → Bool → Answered
checked_on t base [] rows all = output_of rows (cond all 0 1)
checked_on t base (i ∷ is) rows all =
    with_item failure_of (λ b. row_of t b.name (list_of t base b.text) (λ row good. checked_on t base is (rows ++ row) (cond good all false))) i

-- a row for each script; none if one of them is not read
abbrev pub checked : ℕ → Option Named → List Item → Answered
checked base t is = checked_on t base is [] true

-- ---- in the code

-- P is so of the table that was read, if one is named
abbrev pub OfTable : Option Input → (Option Named → Type 0) → Type 0
OfTable o P = (t : Option Named) → IsTable t o → P t

-- f goes on with the row that was made, or the call ends with an answer
abbrev pub Goes : (Next → Answered) → Next → Result Row Code.Answer → Type 0
Goes f k (Ok r) = f k ≡ k r.text.items r.good
Goes f k (Err a) = Gives (f k) a

-- what the whole call answers of the scripts that are left
abbrev pub Checks : Checking → Rest → Type 0
Checks s f = (t : Option Named) × IsTable t s.table × ((is : List Item) → f is ≡ checked_on t s.base is s.rows.items s.all)
