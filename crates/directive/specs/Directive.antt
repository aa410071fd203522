-- What the call answers: a line's number as it reads, where the line asks for one. Assumes nothing.
use Rattle.std.specs.Prelude.{ℕ, Option, Result}
use Rattle.std.specs.Option.{option_map}
use Rattle.rules.specs.Number.{Reading}
use Rattle.numeral.specs.Number.{number_of}
use Rattle.numeral.specs.declared.Failure.{Failure}

abbrev pub line_number_of : Option (Reading ℕ) → Option (Result ℕ Failure)
line_number_of o = option_map number_of o
