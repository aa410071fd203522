-- The rules' station examples, as a table of sources and their lists, and those of byte −1 in the stations' call. Assumes nothing.
use Rattle.std.specs.Prelude.{ℕ, ◌≡◌, List, [], ◌∷◌, map}
use Rattle.rules.specs.Text.{Text, bytes}
use Rattle.rules.specs.Answer.{accepted}
use Rattle.rules.specs.Assemble.{Place, place, assemble}

-- an example: a base, a source, and its list
pub record Example : Type 0 where
  pub base : ℕ
  pub source : Text
  pub list : List Place

abbrev example : ℕ → Text → List Place → Example
example b s l = record { base = b; source = s; list = l }

-- P1 and P2, the bezel script at base 0 and at base $2000
abbrev bezel : Text
bezel = bytes "ORG $1000\nLIM: DC.L 4160\nGO: MOVEQ #3,D1\nMOVE.L LIM,D2\nCMP.L #4160,D2\nBNE GO\nNOP\nEND"

unfoldable pub P1 : Example
P1 =
    example 0 bezel
    (place 0x1000 0x0000 0 ∷ place 0x1002 0x1040 0 ∷ place 0x1004 0x7203 0
    ∷ place 0x1006 0x2478 0 ∷ place 0x1008 0x1000 1 ∷ place 0x100A 0x0C82 0
    ∷ place 0x100C 0x1040 0 ∷ place 0x100E 0x66F4 0 ∷ place 0x1010 0x4E71 0 ∷ [])

unfoldable pub P2 : Example
P2 =
    example 0x2000 bezel
    (place 0x3000 0x0000 0 ∷ place 0x3002 0x1040 0 ∷ place 0x3004 0x7203 0
    ∷ place 0x3006 0x2478 0 ∷ place 0x3008 0x3000 1 ∷ place 0x300A 0x0C82 0
    ∷ place 0x300C 0x1040 0 ∷ place 0x300E 0x66F4 0 ∷ place 0x3010 0x4E71 0 ∷ [])

-- "Empty source: count 0"
unfoldable pub P3 : Example
P3 = example 0 [] []

-- "MOVEQ #127,D0 $707F, #128 none"
unfoldable pub P4 : Example
P4 = example 0 (bytes "MOVEQ #127,D0\nMOVEQ #128,D0") (place 0 0x707F 0 ∷ [])

-- "#0x-80 $7080"
unfoldable pub P5 : Example
P5 = example 0 (bytes "MOVEQ #0x-80,D0") (place 0 0x7080 0 ∷ [])

-- "SUBQ #8,D0 and #0,D0 $5180, #9 $5380, #-1 $5F80"
unfoldable pub P6 : Example
P6 =
    example 0 (bytes "SUBQ #8,D0\nSUBQ #0,D0\nSUBQ #9,D0\nSUBQ #-1,D0")
    (place 0 0x5180 0 ∷ place 2 0x5180 0 ∷ place 4 0x5380 0 ∷ place 6 0x5F80 0 ∷ [])

-- "d 127 taken, 128 none; −128 taken, −129 none"
unfoldable pub P7 : Example
P7 =
    example 0 (bytes "BRA X\nORG 0\nBRA Y\nORG 129\nX:\nORG 130\nY:\nORG 255\nBRA X\nORG 256\nBRA X")
    (place 0 0x607F 0 ∷ place 255 0x6080 0 ∷ [])

-- "`move.l #5,D0` gives $21FC, $0005 and the next line lands on the second"
unfoldable pub P8 : Example
P8 = example 0 (bytes "move.l #5,D0\nNOP") (place 0 0x21FC 0 ∷ place 2 0x0005 0 ∷ place 2 0x4E71 0 ∷ [])

-- "`:` then `MOVEA.L #,A0` gives two words"
unfoldable pub P9 : Example
P9 = example 0 (bytes ":\nMOVEA.L #,A0") (place 0 0x207C 0 ∷ place 2 0x0000 1 ∷ [])

-- "`DC.B 5` gives two words, advances 1"
unfoldable pub P10 : Example
P10 = example 0 (bytes "DC.B 5\nNOP") (place 0 0x0000 0 ∷ place 2 0x0005 0 ∷ place 1 0x4E71 0 ∷ [])

-- "`ENDX: NOP` ends reading"
unfoldable pub P11 : Example
P11 = example 0 (bytes "NOP\nENDX: NOP\nNOP") (place 0 0x4E71 0 ∷ [])

unfoldable pub examples : List Example
examples = P1 ∷ P2 ∷ P3 ∷ P4 ∷ P5 ∷ P6 ∷ P7 ∷ P8 ∷ P9 ∷ P10 ∷ P11 ∷ []

-- each example's source, assembled at its base, is accepted with its list
unfoldable pub ExamplesHold : Type 0
ExamplesHold = map (λ e. assemble e.base e.source) examples ≡ map (λ e. accepted e.list) examples

-- byte −1 "on the new boards": "The old call still emits it", of a label and as written; and -2
unfoldable pub minus_one : Example
minus_one =
    example 0 (bytes "BRA X\nORG 1\nX:BRA X\nBRA -1\nBRA -2")
    (place 0 0x60FF 0 ∷ place 1 0x60FE 0 ∷ place 3 0x60FF 0 ∷ place 5 0x60FE 0 ∷ [])

unfoldable pub MinusOneIsEmitted : Type 0
MinusOneIsEmitted = assemble minus_one.base minus_one.source ≡ accepted minus_one.list
