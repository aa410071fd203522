-- What a call on one input comes to. Assumes nothing.
use Rattle.std.specs.Prelude.{ℕ, ◌≡◌, ◌⊎◌, false, List, [], take, Option, None, Some, IfSome, Result, ⊤}
use Rattle.std.specs.declared.io.Error.{Error}
use Rattle.rules.specs.Text.{Text}
use Rattle.station.specs.Reads.{Reads}
use Rattle.station.specs.declared.input.Input.{Input}
use Rattle.outcome.specs.Made.{Made}
use Rattle.outcome.specs.Outcome.{Ended}
use Rattle.outcome.specs.declared.Outcome.{Outcome}
use Rattle.outcome.specs.declared.Outcome.TheVariants.{Failed}
use Rattle.outcome.specs.declared.What.TheVariants.{Open, Read}
use Rattle.outcome.specs.declared.Which.{Which}
use Rattle.outcome.specs.declared.Which.TheVariants as Of

-- s is all that a file holds, where that is known
abbrev pub Held : Option (List ℕ) → Text → Type 0
Held known s = IfSome known (λ xs. s ≡ xs)

-- h, what the files hold: a branch table that is not lent has no bytes
abbrev pub lent : (Option Text → Option (List ℕ)) → Option Text → Option (List ℕ)
lent h None = Some []
lent h (Some n) = h (Some n)

-- a file was read to its end, and its front is kept
pub record IsRead (known : Option (List ℕ)) (front : List ℕ) (i : Input) : Type 0 where
  pub text : Text
  pub held : Held known text
  pub reads : Reads text front i
  pub whole : i.failed ≡ false

-- a file was not opened, or a read of it failed
abbrev pub Unread : Which → Outcome → Type 0
Unread w o = (e : Error) × ((o ≡ Failed Open (Some w) e) ⊎ (o ≡ Failed Read (Some w) e))

-- f, what has to be made of the table's text and the input's; t and i, what the two files hold; n, how much of the input is kept;
-- puts, what is owed of a text that is put and of the answer; same, that nothing is put; tells, what is said of an outcome and of the input.
-- Where a file was not read nothing is put; else the text of both is put, or it is told why there is none.
abbrev pub Served : (Text → Text → Made) → Option (List ℕ) → Option (List ℕ) → ℕ → (Text → Result ⊤ Error → Type 0) → Type 0 → (Text → Outcome → Type 0) → Outcome → Type 0
Served f t i n puts same tells o =
    ((Unread Of.Table o ⊎ Unread Of.Input o) × same × tells [] o)
    ⊎ ((a b : Text) × Held t a × Held i b × Ended (f a b) puts same o × tells (take n b) o)
