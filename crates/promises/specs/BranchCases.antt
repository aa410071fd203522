-- Odd branch tables and what is loaded of each, as a table; and sources under some of them, at base 0. Assumes nothing.
use Rattle.std.specs.Prelude.{ℕ, ◌≡◌, List, [], ◌∷◌, ◌++◌, map}
use Rattle.rules.specs.Text.{Text, bytes}
use Rattle.rules.specs.Encode.{branch, Mnemonic, mnemonic}
use Rattle.rules.specs.Answer.{Answer, accepted, refused}
use Rattle.rules.specs.Assemble.{place}
use Rattle.requests.specs.Explain.{unknown_mnemonic, wrong_count, not_recorded, emitted, because}
use Rattle.requests.specs.Branches.{loaded, assemble_under, explain_all_under}

-- a row by its four bytes, and the name that it loads
abbrev row : Text → ℕ → Text
row n c = 1 ∷ (n ++ (c ∷ []))

abbrev names : Text → ℕ → Mnemonic
names n c = mnemonic n (branch c)

-- a table, and what is answered
pub record Case : Type 0 where
  pub table : Text
  pub answer : Answer (List Mnemonic)

abbrev refuses : Text → ℕ → ℕ → Case
refuses t n p = record { table = t; answer = refused n p }

abbrev loads : Text → List Mnemonic → Case
loads t ns = record { table = t; answer = accepted ns }

-- commands: "Empty bytes: 16 at 0. No end byte: 16 at the table's length. A cut row: 16 at its byte 1."
unfoldable pub of_commands : List Case
of_commands =
    refuses [] 16 0
    ∷ loads (0 ∷ []) []
    ∷ loads (0 ∷ 5 ∷ []) []
    ∷ refuses (2 ∷ []) 16 0
    ∷ refuses (1 ∷ []) 16 0
    ∷ refuses (1 ∷ bytes "BHS ") 16 0
    ∷ refuses (row (bytes "BHS ") 4) 16 6
    ∷ loads (row (bytes "BHS ") 4 ++ (0 ∷ [])) (names (bytes "BHS") 4 ∷ [])
    ∷ refuses (row (bytes "BHS ") 16 ++ (0 ∷ [])) 16 0
    ∷ refuses (row (bytes "BHS ") 4 ++ (7 ∷ [])) 16 6
    ∷ []

-- "Commands in order; on the first faulty one 16 wins over 17"
unfoldable pub of_order : List Case
of_order =
    refuses (row (bytes "bhs ") 4 ++ (7 ∷ [])) 17 0
    ∷ refuses (row (bytes "bhs ") 16) 16 0
    ∷ refuses (row (bytes "BHS ") 4 ++ (row (bytes "BHS ") 5 ++ (0 ∷ []))) 17 6
    ∷ refuses (row (bytes "BHS ") 4 ++ (row (bytes "BHS ") 16 ++ (0 ∷ []))) 16 6
    ∷ []

-- names: "Padding is byte 32 at the end only", and what is taken or begins with a blank
unfoldable pub of_names : List Case
of_names =
    loads (row (66 ∷ 82 ∷ 65 ∷ 9 ∷ []) 1 ++ (0 ∷ [])) (names (66 ∷ 82 ∷ 65 ∷ 9 ∷ []) 1 ∷ [])
    ∷ loads (row (bytes "B  A") 1 ++ (0 ∷ [])) (names (bytes "B  A") 1 ∷ [])
    ∷ loads (row (0 ∷ 0 ∷ 0 ∷ 0 ∷ []) 0 ++ (0 ∷ [])) (names (0 ∷ 0 ∷ 0 ∷ 0 ∷ []) 0 ∷ [])
    ∷ loads (row (65 ∷ 255 ∷ 32 ∷ 32 ∷ []) 1 ++ (0 ∷ [])) (names (65 ∷ 255 ∷ []) 1 ∷ [])
    ∷ loads (row (8 ∷ 65 ∷ 32 ∷ 32 ∷ []) 4 ++ (0 ∷ [])) (names (8 ∷ 65 ∷ []) 4 ∷ [])
    ∷ refuses (row (13 ∷ 65 ∷ 32 ∷ 32 ∷ []) 4 ++ (0 ∷ [])) 17 0
    ∷ refuses (row (bytes "    ") 4 ++ (0 ∷ [])) 17 0
    ∷ refuses (row (bytes "BHs ") 4 ++ (0 ∷ [])) 17 0
    ∷ refuses (row (bytes "MOVE") 4 ++ (0 ∷ [])) 17 0
    ∷ refuses (row (bytes "NOP ") 4 ++ (0 ∷ [])) 17 0
    ∷ loads (row (bytes "SIMH") 0 ++ (row (bytes "MOV ") 1 ++ (row (bytes "END ") 2 ++ (0 ∷ [])))) (names (bytes "SIMH") 0 ∷ names (bytes "MOV") 1 ∷ names (bytes "END") 2 ∷ [])
    ∷ loads (row (bytes "BRA ") 15 ++ (0 ∷ [])) (names (bytes "BRA") 15 ∷ [])
    ∷ []

unfoldable pub cases : List Case
cases = of_commands ++ of_order ++ of_names

-- BHS and BLO, "Two plants use" them
unfoldable pub ours : Text
ours = row (bytes "BHS ") 4 ++ (row (bytes "BLO ") 5 ++ (0 ∷ []))

-- each answer is the one given; a loaded name is found in either case, whole, and the eleven are not; with no row no branch emits
pub record BranchCasesHold : Type 0 where
  pub tables : map (λ c. loaded c.table) cases ≡ map (λ c. c.answer) cases
  pub list : assemble_under ours 0 (bytes "A: bhs A\nBLO.S +5\nBRA A\nBHSX A\nNOP") ≡ accepted (place 0 0x64FE 0 ∷ place 2 0x6505 0 ∷ place 8 0x4E71 0 ∷ [])
  pub verdicts : explain_all_under ours 0 (bytes "A: bhs A\nBHS\nBHS Q\nBRA A")
      ≡ accepted (emitted ∷ because wrong_count ∷ because not_recorded ∷ because unknown_mnemonic ∷ [])
  pub no_row : assemble_under (0 ∷ []) 0 (bytes "A: BRA A\nNOP") ≡ accepted (place 2 0x4E71 0 ∷ [])
