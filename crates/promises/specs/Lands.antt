-- "Branches land": where the displacements of branches lead, in the stations' lists, in those of the manual's call, and in every list
-- that moves make of them. Said of the list, the line and the label's last record, apart from how a word is found. Assumes nothing.
use Rattle.std.specs.Prelude.{ℕ, ◌+◌, ◌/◌, ◌%◌, ◌<◌, ◌≡◌, List, [], ◌∷◌, ◌++◌, length, take, drop, ℤ, pos, negsuc, ◌+ℤ◌, Some, None}
use Rattle.rules.specs.Text.{Text, bytes}
use Rattle.rules.specs.Line.{Instruction, instruction, line_of, size}
use Rattle.rules.specs.Encode.{Mnemonic, branch, operation_in, encode_by, encode}
use Rattle.rules.specs.Answer.{accepted}
use Rattle.rules.specs.Assemble.{Sizes, Encoder, Pass, Place, pass_at_by, assemble_by, assemble}
use Rattle.rules.specs.Tally.{Tallied, tallied}
use Rattle.manual.specs.Manual.{InByte, InWord, sign_of, sign_of_word, Condition}
use Rattle.requests.specs.ManualCall.{manual_size, manual_encode}
use Rattle.requests.specs.ManualAssemble.{assemble_manual}
use Rattle.promises.specs.Refusals.{IsLine, Reached}
use Rattle.promises.specs.Nearest.{RecordedAtBy}
use Rattle.promises.specs.ListedForms.{marked_zero, words_before, words_after}
use Rattle.promises.specs.MovedLists.{Call, last_total, last_list}
use Rattle.promises.specs.ManualWritten.{InBranch, branch_named}

-- ---- where words lead
-- a branch word, alone, at the address a: its high four bits are 0110, and it "carries a byte whose signed reading, added to the
-- instruction's address plus 2, is" t
pub data ByByte : List ℕ → ℕ → ℤ → Type 0 where
  by_byte : {w a : ℕ} {t : ℤ} → w / 4096 ≡ 6 → pos (a + 2) +ℤ sign_of (w % 256) ≡ t → ByByte (w ∷ []) a t

-- DBRA's two words: the second one's signed reading, added to the same, is t
pub data ByWord : List ℕ → ℕ → ℤ → Type 0 where
  by_word : {w v a : ℕ} {t : ℤ} → w / 8 ≡ 0x51C8 / 8 → v < 65536 → pos (a + 2) +ℤ sign_of_word v ≡ t → ByWord (w ∷ v ∷ []) a t

-- ---- the line
-- the line after the first j ones is read at the address a, as the instruction i; o is "a recorded label", t "the label's last recorded
-- address", and d leads there from the instruction's address plus 2
pub record Aims (z : Sizes) (base : ℕ) (s : Text) (j a : ℕ) (i : Instruction) (o : Text) (t : ℕ) (d : ℤ) : Type 0 where
  pub names : List Text
  pub reached : Reached z base s j a names
  pub line : Text
  pub is : IsLine s j line
  pub asks : (line_of line).task ≡ instruction i
  pub last : RecordedAtBy z base s o t
  pub leads : pos (a + 2) +ℤ d ≡ pos t

-- the instruction i is one of the eleven, its first operand is o, and d is in the range R
pub record Eleven (R : ℤ → Type 0) (i : Instruction) (o : Text) (d : ℤ) : Type 0 where
  pub condition : Condition
  pub named : i.mnemonic ≡ branch_named condition
  pub others : List Text
  pub operands : i.operands ≡ o ∷ others
  pub near : R d

-- the same of a branch by the mnemonics in use, whatever its name
pub record Branches (names : List Mnemonic) (i : Instruction) (o : Text) (d : ℤ) : Type 0 where
  pub condition : ℕ
  pub small : condition < 16
  pub named : operation_in names i.mnemonic ≡ Some (branch condition)
  pub others : List Text
  pub operands : i.operands ≡ o ∷ others
  pub near : InByte d

-- and of DBRA, by its second operand
pub record Loops (i : Instruction) (o : Text) (d : ℤ) : Type 0 where
  pub named : i.mnemonic ≡ bytes "DBRA"
  pub first : Text
  pub others : List Text
  pub operands : i.operands ≡ first ∷ o ∷ others
  pub near : InWord d

-- ---- the list
-- "In a moved list the same holds with the label's address moved by the same distance": in the tally's last list, from n on, the same words
-- stand, from the address a plus the last total on, and lead to t plus that total
pub record LandsMoved (Leads : List ℕ → ℕ → ℤ → Type 0) (ws : List ℕ) (n a t : ℕ) (l : List Place) (ts : List Tallied) : Type 0 where
  pub address : ℕ
  pub moved : pos address ≡ pos a +ℤ last_total (pos 0) ts
  pub stand : take (length ws) (drop n (last_list l ts)) ≡ marked_zero address ws
  pub lands : Leads ws address (pos t +ℤ last_total (pos 0) ts)

-- the list l, of the encoder e, has in the line's place these words and no others, with mark 0 and from the address a on; they lead to t, and
-- stay so by whatever moves
pub record Landed (Leads : List ℕ → ℕ → ℤ → Type 0) (e : Encoder) (p : Pass) (j a t : ℕ) (l : List Place) : Type 0 where
  pub words : List ℕ
  pub list : l ≡ words_before e p j ++ (marked_zero a words ++ words_after e p j)
  pub lands : Leads words a (pos t)
  pub stays : (ds : List ℤ) → LandsMoved Leads words (length (words_before e p j)) a t l (tallied l (pos 0) ds)

-- "For every accepted source and base", of a call by the sizes z and the encoder e, each instruction that is asked for
abbrev pub LandFor : Sizes → Encoder → Call → (Instruction → Text → ℤ → Type 0) → (List ℕ → ℕ → ℤ → Type 0) → Type 0
LandFor z e call Asked Leads =
    (base : ℕ) (s : Text) (p : Pass) (l : List Place) → pass_at_by z base s ≡ accepted p → call base s ≡ accepted l
    → (j a : ℕ) (i : Instruction) (o : Text) (t : ℕ) (d : ℤ) → Aims z base s j a i o t d → Asked i o d → Landed Leads e p j a t l

-- the stations' call, "within −128 to 127". "The operand that is out of range but reads as a signed number is not included."
unfoldable pub BranchesLand : Type 0
BranchesLand = LandFor size encode assemble (Eleven InByte) ByByte

-- the same for whatever mnemonics are in use
unfoldable pub BranchesLandBy : Type 0
BranchesLandBy = (names : List Mnemonic) → LandFor size (encode_by names) (assemble_by size (encode_by names)) (Branches names) ByByte

-- the manual's call, over its own range, without 0 and −1, which are not in it; and DBRA's 16 bits
unfoldable pub ManualBranchesLand : Type 0
ManualBranchesLand = LandFor manual_size manual_encode assemble_manual (Eleven InBranch) ByByte

unfoldable pub LoopsLand : Type 0
LoopsLand = LandFor manual_size manual_encode assemble_manual Loops ByWord

-- ---- none of it is said of nothing
-- a branch to its own line, with the label X in front, 2 bytes back
abbrev pub back : Condition → Text
back c = bytes "X:" ++ (branch_named c ++ bytes " X")

abbrev pub back_said : Condition → Instruction
back_said c = record { mnemonic = branch_named c; suffix = None; operands = bytes "X" ∷ [] }

abbrev pub loop : Text
loop = bytes "X:DBRA D0,X"

abbrev pub loop_said : Instruction
loop_said = record { mnemonic = bytes "DBRA"; suffix = None; operands = bytes "D0" ∷ bytes "X" ∷ [] }

-- a source is accepted by a call
abbrev pub Accepts : Call → Text → Type 0
Accepts call s = (l : List Place) × (call 0 s ≡ accepted l)

-- such a line of each of the eleven, and of DBRA, is asked for, in an accepted source
pub record EveryBranchIsAsked : Type 0 where
  pub rules : (c : Condition) → Accepts assemble (back c) × Aims size 0 (back c) 0 0 (back_said c) (bytes "X") 0 (negsuc 1)
  pub manual : (c : Condition) → Accepts assemble_manual (back c) × Aims manual_size 0 (back c) 0 0 (back_said c) (bytes "X") 0 (negsuc 1)
  pub branch : (c : Condition) → Eleven InByte (back_said c) (bytes "X") (negsuc 1) × Eleven InBranch (back_said c) (bytes "X") (negsuc 1)
  pub loop : Accepts assemble_manual loop × Aims manual_size 0 loop 0 0 loop_said (bytes "X") 0 (negsuc 1) × Loops loop_said (bytes "X") (negsuc 1)
