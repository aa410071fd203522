-- A line's number as C gets it. Assumes nothing.
use Rattle.std.specs.Prelude.{ℕ, Option, None, Some, Result, Ok, Err}
use Rattle.numeral.specs.declared.Failure.{Failure}
use Rattle.numeral.specs.declared.Failure.TheVariants.{NoDigits, BadDigit, OutOfRange}

-- what failed in a number
abbrev pub failure_number : Failure → ℕ
failure_number NoDigits = 1
failure_number BadDigit = 2
failure_number OutOfRange = 3

-- what the call returns, and what it leaves in the number that the caller lends
abbrev pub said_number : Option (Result ℕ Failure) → ℕ
said_number (Some (Ok v)) = 0
said_number (Some (Err x)) = failure_number x
said_number None = 4

abbrev pub said_value : Option (Result ℕ Failure) → ℕ
said_value (Some (Ok v)) = v
said_value (Some (Err x)) = 0
said_value None = 0
