-- What the numbers of the manual's call mean that stand without a `#`: a jump's of 32 bits, and a displacement's, a signed number of any length.
-- Said of the text's bytes and by plain sums. Assumes nothing.
use Rattle.std.specs.Prelude.{ℕ, ◌≡◌, ◌↔◌, ℤ, Option, None, Some}
use Rattle.rules.specs.Text.{Text}
use Rattle.rules.specs.Number.{read}
use Rattle.requests.specs.ManualCall.{number32, signed_digits}
use Rattle.promises.specs.Readings.{Means32, Exactly}
use Rattle.promises.specs.ManualWritten.{SignedNumber}

-- an operand is one signed number, or none
pub data SaysSigned (s : Text) : Option ℤ → Type 0 where
  says_number : {d : ℤ} → SignedNumber s d → SaysSigned s (Some d)
  says_none : ((d : ℤ) → ¬ SignedNumber s d) → SaysSigned s None

pub record ManualNumbersMean : Type 0 where
  -- what JMP takes of a number is what it reads as, and nothing else
  pub jumps : (s : Text) (v : ℕ) → (number32 s ≡ Some v) ↔ Means32 s (read v)
  -- a sign and decimal digits, as many as there are
  pub of_displacements : Exactly signed_digits SaysSigned
