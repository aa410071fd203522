-- A branch's displacement as the code answers it: of a label in reach, or as its operand reads. Assumes nothing.
use Rattle.std.specs.Prelude.{ℕ, ℤ, Option, None, Some, Result}
use Rattle.std.specs.Option.{option_map}
use Rattle.rules.specs.Option.{bind}
use Rattle.rules.specs.Text.{Text}
use Rattle.rules.specs.Number.{Reading, read}
use Rattle.rules.specs.Label.{Table, find}
use Rattle.rules.specs.Encode.{reach, written_reading}
use Rattle.numeral.specs.Number.{signed_of}
use Rattle.numeral.specs.declared.Failure.{Failure}

-- a value, or what failed in the number; None where there is neither a label in reach nor a sign
abbrev pub displacement_of : Option (Reading ℤ) → Option (Result ℤ Failure)
displacement_of o = option_map signed_of o

-- of a label in reach from a, else as the operand reads
unfoldable pub reached : Option ℤ → Option (Reading ℤ) → Option (Reading ℤ)
reached None o = o
reached (Some d) o = Some (read d)

unfoldable pub displacement_reading : Table → ℕ → Text → Option (Reading ℤ)
displacement_reading ls a s = reached (bind (find s ls) (λ t. reach t a)) (written_reading s)
