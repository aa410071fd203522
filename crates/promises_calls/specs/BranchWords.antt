-- What a branch's word says, its condition and its displacement: of the eleven, of whatever mnemonics are in use, and of a table's names. Said
-- of the word's bits and of the operand's text, apart from how the word is put together and how an operand is read. Assumes nothing.
use Rattle.std.specs.Prelude.{ℕ, ◌+◌, ◌/◌, ◌%◌, ◌<◌, ◌≡◌, true, List, ◌∷◌, ◌++◌, ℤ, pos, ◌+ℤ◌, Some}
use Rattle.rules.specs.Text.{Text}
use Rattle.rules.specs.Number.{read}
use Rattle.rules.specs.Line.{Instruction, instruction, line_of, size}
use Rattle.rules.specs.Encode.{branch, Mnemonic, mnemonic, other_mnemonics, operation_in, encode_by, encode}
use Rattle.rules.specs.Answer.{accepted}
use Rattle.rules.specs.Assemble.{Encoder, Pass, Place, place, pass_at, assemble_by, assemble}
use Rattle.manual.specs.Manual.{InByte, sign_of, Condition, T, CC, CS, NE, EQ, PL, MI, GE, LT, GT, LE}
use Rattle.requests.specs.Branches.{assemble_under}
use Rattle.promises.specs.Refusals.{IsLine, Reached}
use Rattle.promises.specs.Nearest.{In, RecordedAtBy}
use Rattle.promises.specs.Readings.{Signed, Means, MeansWritten}
use Rattle.promises.specs.ListedForms.{words_before, words_after}
use Rattle.promises.specs.MovedLists.{Call}
use Rattle.promises.specs.ManualWritten.{branch_named}
use Rattle.promises.specs.Branches.{Accepted}

-- a word whose high four bits are 0110, the next four the condition c, and whose low byte reads as d with its sign
pub record BranchWord (c : ℕ) (d : ℤ) (w : ℕ) : Type 0 where
  pub branch : w / 4096 ≡ 6
  pub condition : w / 256 % 16 ≡ c
  pub reads : sign_of (w % 256) ≡ d

-- the operand o of a branch at the address a gives the displacement d. "The displacement d of a label is its address minus (instruction
-- address + 2), if −128 to 127. Otherwise an operand starting + or − is read as signed 8 bits, decimal, without a prefix."
pub data Displaces (base : ℕ) (s : Text) (a : ℕ) (o : Text) (d : ℤ) : Type 0 where
  as_label : {t : ℕ} → RecordedAtBy size base s o t → pos (a + 2) +ℤ d ≡ pos t → InByte d → Displaces base s a o d
  signed_operand : ((t : ℕ) (e : ℤ) → RecordedAtBy size base s o t → pos (a + 2) +ℤ e ≡ pos t → ¬ InByte e)
      → MeansWritten (Means true (Signed 128) 10) o (Some (read d)) → Displaces base s a o d

-- the line after the first j ones is read at the address a, as the instruction i, whose first operand gives the displacement d
pub record BranchLine (base : ℕ) (s : Text) (j a : ℕ) (i : Instruction) (d : ℤ) : Type 0 where
  pub names : List Text
  pub reached : Reached size base s j a names
  pub line : Text
  pub is : IsLine s j line
  pub asks : (line_of line).task ≡ instruction i
  pub first : Text
  pub others : List Text
  pub operands : i.operands ≡ first ∷ others
  pub displaces : Displaces base s a first d

-- the list l has in the line's place one word and no other, at its address and with mark 0, which says the condition c and the displacement d
pub record Worded (e : Encoder) (p : Pass) (j a c : ℕ) (d : ℤ) (l : List Place) : Type 0 where
  pub word : ℕ
  pub list : l ≡ words_before e p j ++ (place a word 0 ∷ words_after e p j)
  pub says : BranchWord c d word

-- so of each such line of an accepted source, where Named says which condition its mnemonic names
abbrev pub SayFor : Encoder → Call → (ℕ → Instruction → Type 0) → Type 0
SayFor e call Named =
    (base : ℕ) (s : Text) (p : Pass) (l : List Place) → pass_at base s ≡ accepted p → call base s ≡ accepted l
    → (j a : ℕ) (i : Instruction) (c : ℕ) (d : ℤ) → BranchLine base s j a i d → Named c i → Worded e p j a c d l

-- "BRA 0, BCC 4, BCS 5, BNE 6, BEQ 7, BPL 8, BMI 9, BGE 12, BLT 13, BGT 14, BLE 15"
unfoldable pub own_number : Condition → ℕ
own_number T = 0
own_number CC = 4
own_number CS = 5
own_number NE = 6
own_number EQ = 7
own_number PL = 8
own_number MI = 9
own_number GE = 12
own_number LT = 13
own_number GT = 14
own_number LE = 15

pub record OfEleven (c : ℕ) (i : Instruction) : Type 0 where
  pub condition : Condition
  pub named : i.mnemonic ≡ branch_named condition
  pub number : c ≡ own_number condition

unfoldable pub BranchesSay : Type 0
BranchesSay = SayFor encode assemble OfEleven

-- by whatever mnemonics are in use
pub record InUse (names : List Mnemonic) (c : ℕ) (i : Instruction) : Type 0 where
  pub named : operation_in names i.mnemonic ≡ Some (branch c)
  pub small : c < 16

unfoldable pub BranchesSayBy : Type 0
BranchesSayBy = (names : List Mnemonic) → SayFor (encode_by names) (assemble_by size (encode_by names)) (InUse names)

-- and under a table, each of whose rows has a name and a condition
abbrev pub OfRow : List Mnemonic → ℕ → Instruction → Type 0
OfRow ns c i = In (mnemonic i.mnemonic (branch c)) ns

unfoldable pub BranchesSayUnder : Type 0
BranchesSayUnder = (t : Text) (ns : List Mnemonic) → Accepted t ns → SayFor (encode_by (other_mnemonics ++ ns)) (assemble_under t) (OfRow ns)
