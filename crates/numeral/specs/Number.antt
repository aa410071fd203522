-- What the readers answer: readings as the language's own Result, what is left of a number too large, and the length of a prefix. Assumes nothing.
use Rattle.std.specs.Prelude.{ℕ, ◌-◌, Bool, cond, length, ℤ, nat_lt, Option, None, Some, Result, Ok, Err}
use Rattle.std.specs.Option.{option_map}
use Rattle.std.specs.List.{list_all}
use Rattle.rules.specs.Text.{Text}
use Rattle.rules.specs.Number.{digit_value, Failure as Fault, no_digits, bad_digit, out_of_range, Reading, read, failed, hex_tail}
use Rattle.numeral.specs.declared.Failure.{Failure}
use Rattle.numeral.specs.declared.Failure.TheVariants.{NoDigits, BadDigit, OutOfRange}

abbrev pub failure_of : Fault → Failure
failure_of no_digits = NoDigits
failure_of bad_digit = BadDigit
failure_of out_of_range = OutOfRange

-- a number read, or what failed
abbrev pub result_of : {A : Type 0} → Reading A → Result A Failure
result_of (read v) = Ok v
result_of (failed x) = Err (failure_of x)

-- an unsigned number, and a signed one
abbrev pub number_of : Reading ℕ → Result ℕ Failure
number_of r = result_of r

abbrev pub signed_of : Reading ℤ → Result ℤ Failure
signed_of r = result_of r

-- an immediate's number, unsigned and signed; without `#` an operand is no immediate
abbrev pub immediate_of : Option (Reading ℕ) → Option (Result ℕ Failure)
immediate_of o = option_map number_of o

abbrev pub signed_immediate_of : Option (Reading ℤ) → Option (Result ℤ Failure)
signed_immediate_of o = option_map signed_of o

-- all bytes are digits of the radix
unfoldable pub digits_only : ℕ → Text → Bool
digits_only radix s = list_all (λ b. nat_lt (digit_value b) radix) s

-- what failed where the value has left the type, by the bytes that are left
unfoldable pub past_bound : ℕ → Text → Fault
past_bound radix s = cond (digits_only radix s) out_of_range bad_digit

-- the length of a prefix: what the text has more than what follows the prefix, 0 where there is none
unfoldable pub prefix_length : Text → ℕ
prefix_length s = elim (hex_tail s) [ None ↦ 0 | Some t ↦ length s - length t ]
