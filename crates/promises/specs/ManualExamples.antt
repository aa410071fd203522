-- The manual's call by example: sources of the manual's call with the refusal or the list that they have. Assumes nothing.
use Rattle.std.specs.Prelude.{ℕ, ◌≡◌, List, [], ◌∷◌, map}
use Rattle.rules.specs.Text.{Text, bytes}
use Rattle.rules.specs.Answer.{Answer, accepted, refused}
use Rattle.rules.specs.Assemble.{Place, place}
use Rattle.requests.specs.ManualAssemble.{assemble_manual}

-- an example: a base, a source, and its answer
pub record Example : Type 0 where
  pub base : ℕ
  pub source : Text
  pub answer : Answer (List Place)

abbrev fails : ℕ → ℕ → Text → Example
fails n line s = record { base = 0; source = s; answer = refused n line }

abbrev gives : Text → List Place → Example
gives s l = record { base = 0; source = s; answer = accepted l }

-- suffixes are exactly as written, an empty one too; 14
unfoldable pub suffixes : List Example
suffixes =
    fails 14 1 (bytes "MOVE.L D0,D1") ∷ fails 14 1 (bytes "MULS D0,D1") ∷ fails 14 1 (bytes "move.l #5,D0") ∷ fails 14 1 (bytes "x:BRA.S x")
    ∷ fails 14 1 (bytes "CMPI.L #5,D0") ∷ fails 14 1 (bytes "NOP.")
    ∷ gives (bytes "move.L #5,D0") (place 0 0x203C 0 ∷ place 2 0x0000 0 ∷ place 4 0x0005 0 ∷ [])
    ∷ gives (bytes "MOVE.L.W (A1),D0") (place 0 0x2011 0 ∷ []) ∷ []

-- numbers that are unreadable or out of range, and labels that are none; 14
unfoldable pub unencoded : List Example
unencoded =
    fails 14 1 (bytes "MOVE.L #-1,D0") ∷ fails 14 1 (bytes "SUBQ.L #9,D0") ∷ fails 14 1 (bytes "SUBQ.L #0,D0") ∷ fails 14 1 (bytes "JMP 4294967296")
    ∷ fails 14 1 (bytes "JMP $G") ∷ fails 14 1 (bytes "D0:MOVE.L D0,D1") ∷ fails 14 1 (bytes "MOVE.L $1000,D0") ∷ fails 14 1 (bytes "x:MOVE.L #x,D0")
    ∷ fails 14 1 (bytes "BRA far") ∷ fails 14 1 (bytes "SIMHALT") ∷ fails 14 1 (bytes "FOO") ∷ fails 14 1 (bytes "x: ; note") ∷ fails 14 1 (bytes "x: END")
    ∷ fails 14 1 (bytes "x:y:NOP") ∷ []

-- displacements: 15 needs the only fault, and a signed number has any length
unfoldable pub ranges : List Example
ranges =
    fails 15 1 (bytes "BRA +128") ∷ fails 15 1 (bytes "BRA -129") ∷ fails 15 1 (bytes "BRA +0") ∷ fails 15 1 (bytes "BRA +99999999999")
    ∷ fails 15 1 (bytes "DBRA D0,+32768") ∷ fails 15 1 (bytes "DBRA D0,-32769")
    ∷ fails 14 1 (bytes "BRA +") ∷ fails 14 1 (bytes "BRA +1x") ∷ fails 14 1 (bytes "BRA -$10")
    ∷ fails 15 3 (bytes "+5x:NOP\nORG 1000\nBRA +5x") ∷ fails 14 1 (bytes "BRA +5x")
    ∷ fails 14 1 (bytes "BRA.S far\nORG 1000\nfar:NOP") ∷ fails 14 1 (bytes "BRA far,x\nORG 1000\nfar:NOP") ∷ fails 14 1 (bytes "DBRA A0,far\nORG 40000\nfar:NOP")
    ∷ fails 15 1 (bytes "BRA x\nFOO\nx:NOP")
    ∷ gives (bytes "+5:NOP\nORG 1000\nBRA +5") (place 0 0x4E71 0 ∷ place 1000 0x6005 0 ∷ [])
    ∷ gives (bytes "BRA +5\n+5:NOP") (place 0 0x6005 0 ∷ place 2 0x4E71 0 ∷ [])
    ∷ gives (bytes "BRA +127\nBRA -128") (place 0 0x607F 0 ∷ place 2 0x6080 0 ∷ [])
    ∷ gives (bytes "DBRA D7,-1\nDBRA D0,+0") (place 0 0x51CF 0 ∷ place 2 0xFFFF 0 ∷ place 4 0x51C8 0 ∷ place 6 0x0000 0 ∷ []) ∷ []

-- -1 is out of range for a branch, of a label and as written, -2 is not; the fall-through of the stations' call; DBRA keeps -1
unfoldable pub minus_one : List Example
minus_one =
    fails 15 1 (bytes "BRA X\nORG 1\nX:") ∷ fails 15 1 (bytes "BRA -1")
    ∷ gives (bytes "X:BRA X\nBRA -2") (place 0 0x60FE 0 ∷ place 2 0x60FE 0 ∷ [])
    ∷ gives (bytes "BRA -5\nORG 1\n-5:") (place 0 0x60FB 0 ∷ [])
    ∷ gives (bytes "DBRA D0,X\nORG 1\nX:") (place 0 0x51C8 0 ∷ place 2 0xFFFF 0 ∷ []) ∷ []

-- the size of FOO is 0, so at 2^30 − 1 it is 14 and not 5; ORG and DC without a number are silent; empties are removed before counting
unfoldable pub lines : List Example
lines =
    record { base = 0x3FFFFFFF; source = bytes "FOO"; answer = refused 14 1 }
    ∷ fails 14 2 (bytes "NOP\nFOO\nBRA +0") ∷ fails 15 2 (bytes "NOP\nBRA +0\nFOO")
    ∷ gives (bytes "ORG\nDC.L x") []
    ∷ gives (bytes "NOP ,\nBRA -2,") (place 0 0x4E71 0 ∷ place 2 0x60FE 0 ∷ [])
    ∷ gives (bytes "$10:JMP $10") (place 0 0x4EF9 0 ∷ place 2 0x0000 0 ∷ place 4 0x0010 0 ∷ []) ∷ []

-- the words that the stations' call does not have, at base $12340, and those that it has
unfoldable pub words : Example
words =
    record {
      base = 0x12340;
      source = bytes "X:MOVE.L #$89ABCDEF,D1\nMOVE.L X,D2\nMOVE.L D3,X\nMOVEA.L #X,A4\nCMP.L #4160,D5\nJMP X\nJUMP 65541\nDBRA D6,X\nBPL X\nBMI +4";
      answer =
          accepted
          (place 0x12340 0x223C 0 ∷ place 0x12342 0x89AB 0 ∷ place 0x12344 0xCDEF 0
          ∷ place 0x12346 0x2439 0 ∷ place 0x12348 0x0001 2 ∷ place 0x1234A 0x2340 3
          ∷ place 0x1234C 0x23C3 0 ∷ place 0x1234E 0x0001 2 ∷ place 0x12350 0x2340 3
          ∷ place 0x12352 0x287C 0 ∷ place 0x12354 0x0001 2 ∷ place 0x12356 0x2340 3
          ∷ place 0x12358 0x0C85 0 ∷ place 0x1235A 0x0000 0 ∷ place 0x1235C 0x1040 0
          ∷ place 0x1235E 0x4EF9 0 ∷ place 0x12360 0x0001 2 ∷ place 0x12362 0x2340 3
          ∷ place 0x12364 0x4EF9 0 ∷ place 0x12366 0x0001 0 ∷ place 0x12368 0x0005 0
          ∷ place 0x1236A 0x51CE 0 ∷ place 0x1236C 0xFFD4 0 ∷ place 0x1236E 0x6AD0 0 ∷ place 0x12370 0x6B04 0 ∷ []);
    }

unfoldable pub words01 : Example
words01 =
    gives
    (bytes "MOVEQ #-1,D1\nMOVE.L (A2),D3\nMOVE.L D4,(A5)\nMOVE.W D6,D7\nMULS.W #$FFFF,D0\nMULS.W D1,D2\nADD.W D3,D4\nSUB.W D5,D6\nCMP.W D7,D0\nTST.L D1\nSUBQ.L #8,D2\nASL.L #1,D3\nNOP")
    (place 0x0 0x72FF 0 ∷ place 0x2 0x2612 0 ∷ place 0x4 0x2A84 0 ∷ place 0x6 0x3E06 0 ∷ place 0x8 0xC1FC 0 ∷ place 0xA 0xFFFF 0 ∷ place 0xC 0xC5C1 0
    ∷ place 0xE 0xD843 0 ∷ place 0x10 0x9C45 0 ∷ place 0x12 0xB047 0 ∷ place 0x14 0x4A81 0 ∷ place 0x16 0x5182 0 ∷ place 0x18 0xE383 0 ∷ place 0x1A 0x4E71 0 ∷ [])

abbrev Hold : List Example → Type 0
Hold xs = map (λ x. assemble_manual x.base x.source) xs ≡ map (λ x. x.answer) xs

pub record ManualExamples : Type 0 where
  pub of_suffixes : Hold suffixes
  pub of_unencoded : Hold unencoded
  pub of_ranges : Hold ranges
  pub of_minus_one : Hold minus_one
  pub lines_agree : Hold lines
  pub of_words : Hold (words ∷ words01 ∷ [])
