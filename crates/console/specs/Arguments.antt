-- A program's arguments, and what is put at the front of a text of one of them. Assumes nothing.
use Rattle.std.specs.Prelude.{ℕ, ◌≡◌, ◌<◌, ◌≤◌, List, [], length, take, if◌then◌else◌, nat_le}
use Rattle.std.specs.declared.result.Result.{Result}
use Rattle.std.specs.declared.result.Result.TheVariants.{Ok, Err}
use Rattle.std.specs.declared.env.FillError.{FillError}
use Rattle.std.specs.declared.env.FillError.TheVariants.{NotPresent, TooLong}
use lib.ListN.{get_or}

-- argument k, none past the last
abbrev pub argument_at : List (List ℕ) → ℕ → List ℕ
argument_at arguments k = get_or arguments k []

-- what is put into a text with n bytes: all of the argument, or nothing where it is longer
abbrev pub fitting : ℕ → List ℕ → List ℕ
fitting n argument = if nat_le (length argument) n then argument else []

-- the n bytes at the front of the text
abbrev pub IsFront : List ℕ → List ℕ → ℕ → Type 0
IsFront front text n = (n ≡ length front) × (take n text ≡ front)

-- argument k of these is put into the text, is not there, or is longer than it
abbrev pub Puts : List (List ℕ) → ℕ → List ℕ → Result ℕ FillError → Type 0
Puts arguments k text (Ok n) = (k < length arguments) × IsFront (argument_at arguments k) text n
Puts arguments k text (Err NotPresent) = length arguments ≤ k
Puts arguments k text (Err TooLong) = (k < length arguments) × (length text < length (argument_at arguments k))
