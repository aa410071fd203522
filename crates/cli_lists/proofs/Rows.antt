-- The row of a refusal that is not of the branch table. Assumes nothing.
use Rattle.std.proofs.Common.{◌≡◌, ℕ, ◌||◌, eqb, false}
use Rattle.std.specs.Prelude.{Option, None, Some, Result, Ok, Err}
use Rattle.rules.specs.Text.{Text}
use Rattle.cli_error.specs.Messages.{refused_row}
use Rattle.cli_error.specs.declared.Answer.{Answer}
use Rattle.cli_run.specs.Input.{Named}
use Rattle.cli_lists.specs.Checked.{Next, refused_by, Goes}
use Rattle.cli_lists.specs.declared.checking.Row.{Row}

pub row_refused : (t : Option Named) (name : Text) (n p : ℕ) (k : Next) (r : Result Row Answer) → (eqb n 16 || eqb n 17) ≡ false
    → Goes (λ next. next (refused_row name n p) false) k r → Goes (refused_by t name n p) k r
row_refused None name n p k r h f = f
row_refused (Some t) name n p k (Ok r) h f = rw h f
row_refused (Some t) name n p k (Err a) h f = rw h f

pub no_table_row : (t : Option Named) (name : Text) (n p : ℕ) (k : Next) (r : Result Row Answer) → t ≡ None
    → Goes (λ next. next (refused_row name n p) false) k r → Goes (refused_by t name n p) k r
no_table_row t name n p k r e f = rw e f
