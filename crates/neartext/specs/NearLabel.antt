-- What `nearlabel` prints for a script, and what its arguments ask. Assumes nothing.
use Rattle.std.specs.Prelude.{ℕ, cond, [], ◌∷◌, ◌++◌, eqb, take, drop, Option, None, Some, Result, Ok, Err}
use Rattle.rules.specs.Text.{Text}
use Rattle.rules.specs.Answer.{Answer, accepted, refused}
use Rattle.requests.specs.Nearest.{Nearest, nearest}
use Rattle.numeral.specs.Number.{number_of}
use Rattle.numeral.specs.declared.Failure.{Failure}
use Rattle.listing.specs.Listing.{decimal, refused_text}
use Rattle.station.specs.Station.{hexadecimal_in}
use Rattle.neartext.specs.declared.Asked.{Asked}

-- a label's line: its name, a space, the distance in decimal, byte 10
unfoldable pub label_text : Text → ℕ → Text
label_text name distance = name ++ (32 ∷ (decimal distance ++ (10 ∷ [])))

-- the line for a label that the script's answer names: the name as its last record has it
abbrev pub nearest_line : Text → Nearest → Text
nearest_line s n = label_text (take n.length (drop n.start s)) n.distance

-- the line for a script's answer: the label's, or the refusal's
unfoldable pub told_text : Text → Answer Nearest → Text
told_text s (accepted n) = nearest_line s n
told_text s (refused n p) = refused_text n p

-- what is printed at a base, for an address and a script
unfoldable pub near_text : ℕ → ℕ → Text → Text
near_text base a s = told_text s (nearest base s a)

-- ---- arguments

-- an address and a base, if both are read
abbrev pub asked_at : Result ℕ Failure → Result ℕ Failure → Option Asked
asked_at (Ok a) (Ok b) = Some (record { address = a; base = b })
asked_at (Ok a) (Err x) = None
asked_at (Err x) b = None

-- one argument besides the program's name, the address, and the base is 0; or two
unfoldable pub asked_by : ℕ → Text → Text → Option Asked
asked_by count a b =
    cond (eqb count 2) (asked_at (number_of (hexadecimal_in a)) (Ok 0))
    (cond (eqb count 3) (asked_at (number_of (hexadecimal_in a)) (number_of (hexadecimal_in b))) None)
