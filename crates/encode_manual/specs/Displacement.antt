-- A displacement as the code answers it: the first that fits, in sixteen bits; or whether there is one at all. Assumes nothing.
use Rattle.std.specs.Prelude.{ℕ, Bool, ◌&&◌, ltb, List, [], ◌∷◌, ℤ, Option, None, Some, Result, Ok, Err}
use Rattle.manual.specs.Manual.{T, sixteen_bits}
use Rattle.requests.specs.ManualCall.{Branching, branch, loop, first_that}
use Rattle.numeral.specs.declared.Failure.{Failure}
use Rattle.numeral.specs.declared.Failure.TheVariants.{NoDigits, BadDigit, OutOfRange}
use Rattle.encode_manual.specs.declared.Fault.{Fault}
use Rattle.encode_manual.specs.declared.Fault.TheVariants.{NoEncoding, OutOfReach}
use Rattle.encode_manual.specs.declared.displacement.Room.{Room}
use Rattle.encode_manual.specs.declared.displacement.Room.TheVariants.{Byte, Word}
use Rattle.encode_manual.specs.declared.displacement.Unfit.{Unfit}
use Rattle.encode_manual.specs.declared.displacement.Unfit.TheVariants.{Outside, Nothing}

-- an instruction with its displacement there: which of them does not matter to what fits
abbrev pub branching_in : Room → Branching
branching_in Byte = branch T
branching_in Word = loop 0

-- whether one fits there, by how far it is from 0, or from -1 where it is negative
abbrev pub room_for : Room → ℕ → Bool
room_for Byte n = ltb 0 n && ltb n 128
room_for Word n = ltb n 32768

abbrev pub reached : Option ℤ → Result ℕ Unfit
reached None = Err Outside
reached (Some z) = Ok (sixteen_bits z)

-- of the displacements there are, the first that fits
abbrev pub displacement_in : (ℤ → Bool) → List ℤ → Result ℕ Unfit
displacement_in f [] = Err Nothing
displacement_in f (d ∷ ds) = reached (first_that f (d ∷ ds))

-- a number that can't be read: too large or too small, it is there all the same
abbrev pub unfit_of : Failure → Unfit
unfit_of NoDigits = Nothing
unfit_of BadDigit = Nothing
unfit_of OutOfRange = Outside

abbrev pub unfit_fault : ℕ → Unfit → Fault
unfit_fault n Outside = OutOfReach n
unfit_fault n Nothing = NoEncoding n
