-- The manual's words: "In the forms" that the stations' call has equal to "the M68000 Programmer's Reference Manual, each word
-- is proved to be the manual's". The forms as lines are written, and the statement about lines. Assumes nothing.
use Rattle.std.specs.Prelude.{ℕ, suc, ◌+◌, ◌≤◌, ◌<◌, ◌^◌, ◌≡◌, ◌≢◌, take, drop, ℤ, pos, negsuc, ◌+ℤ◌, Option, None, Some}
use mathlib.Core.List.{List, [], ◌∷◌, ◌++◌, flat_map}
use Rattle.rules.specs.Text.{Text, bytes}
use Rattle.rules.specs.Number.{imm8, imm16}
use Rattle.rules.specs.Line.{Instruction as Said, instruction, size, line_of}
use Rattle.rules.specs.Label.{Table, find}
use Rattle.rules.specs.Encode.{written_signed, encode}
use Rattle.rules.specs.Answer.{accepted}
use Rattle.rules.specs.Assemble.{Pass, Place, Encoder, data_places, code_places_by, second_pass, pass_at, assemble}
use Rattle.promises.specs.Refusals.{Reached, IsLine}
use Rattle.manual.specs.Manual.{InByte, byte, sign_of, word, long, direct, indirect, immediate, Condition, T, CC, CS, NE, EQ, GE, LT, GT, LE, quick, quick_of, Instruction, MOVEQ, MOVE, MULS, ADD, SUB, CMP, TST, SUBQ, ASL, NOP, Bcc, Layout, layout, extensions, manual_words}

-- the operands Dn and (An) as texts: the digit of n is byte 48 + n
abbrev pub D : ℕ → Text
D n = 68 ∷ (48 + n) ∷ []

abbrev pub at_a : ℕ → Text
at_a n = 40 ∷ 65 ∷ (48 + n) ∷ 41 ∷ []

-- the suffixes
abbrev pub L : Option Text
L = Some (bytes "L")

abbrev pub W : Option Text
W = Some (bytes "W")

-- the branches that are equal to the manual's, with their conditions and mnemonics: BPL and BMI are not among them
pub data Branch : Type 0 where
  BRA BCC BCS BNE BEQ BGE BLT BGT BLE : Branch

unfoldable pub condition_of : Branch → Condition
condition_of BRA = T
condition_of BCC = CC
condition_of BCS = CS
condition_of BNE = NE
condition_of BEQ = EQ
condition_of BGE = GE
condition_of BLT = LT
condition_of BGT = GT
condition_of BLE = LE

unfoldable pub branch_name : Branch → Text
branch_name BRA = bytes "BRA"
branch_name BCC = bytes "BCC"
branch_name BCS = bytes "BCS"
branch_name BNE = bytes "BNE"
branch_name BEQ = bytes "BEQ"
branch_name BGE = bytes "BGE"
branch_name BLT = bytes "BLT"
branch_name BGT = bytes "BGT"
branch_name BLE = bytes "BLE"

-- s is a label in reach of the instruction at a: z leads from the program counter, a + 2, to its address
pub record InReach (ls : Table) (a : ℕ) (s : Text) (z : ℤ) : Type 0 where
  pub target : ℕ
  pub found : find s ls ≡ Some target
  pub leads : pos (a + 2) +ℤ z ≡ pos target
  pub near : InByte z

-- a branch's operand and its displacement: a label in reach or, where it names none, a signed number
pub data Displaced (ls : Table) (a : ℕ) (s : Text) (z : ℤ) : Type 0 where
  label : InReach ls a s z → Displaced ls a s z
  signed_number : ((y : ℤ) → InReach ls a s y → ⊥) → written_signed s ≡ Some z → Displaced ls a s z

-- the listed forms: mnemonic, suffix and operands that are, at address a with the labels ls, an instruction of the manual. "The set
-- of branches proved equal to the manual loses the byte −1 as it already lacks 0."
pub data Written (ls : Table) (a : ℕ) : Text → Option Text → List Text → Instruction → Type 0 where
  moveq : {s : Text} {z : ℤ} {n : ℕ} → imm8 s ≡ Some z → n < 8
      → Written ls a (bytes "MOVEQ") None (s ∷ D n ∷ []) (MOVEQ z n)
  load : {n m : ℕ} → n < 8 → m < 8
      → Written ls a (bytes "MOVE") L (at_a n ∷ D m ∷ []) (MOVE long (indirect n) (direct m))
  store : {n m : ℕ} → n < 8 → m < 8
      → Written ls a (bytes "MOVE") L (D n ∷ at_a m ∷ []) (MOVE long (direct n) (indirect m))
  copy : {n m : ℕ} → n < 8 → m < 8 → Written ls a (bytes "MOVE") W (D n ∷ D m ∷ []) (MOVE word (direct n) (direct m))
  muls_data : {s : Text} {v n : ℕ} → imm16 s ≡ Some v → n < 8
      → Written ls a (bytes "MULS") W (s ∷ D n ∷ []) (MULS (immediate v) n)
  muls : {n m : ℕ} → n < 8 → m < 8 → Written ls a (bytes "MULS") W (D n ∷ D m ∷ []) (MULS (direct n) m)
  add : {n m : ℕ} → n < 8 → m < 8 → Written ls a (bytes "ADD") W (D n ∷ D m ∷ []) (ADD word (direct n) m)
  sub : {n m : ℕ} → n < 8 → m < 8 → Written ls a (bytes "SUB") W (D n ∷ D m ∷ []) (SUB word (direct n) m)
  cmp : {n m : ℕ} → n < 8 → m < 8 → Written ls a (bytes "CMP") W (D n ∷ D m ∷ []) (CMP word (direct n) m)
  tst : {n : ℕ} → n < 8 → Written ls a (bytes "TST") L (D n ∷ []) (TST long (direct n))
  subq : {s : Text} {k n : ℕ} → imm8 s ≡ Some (pos k) → 1 ≤ k → k ≤ 8 → n < 8
      → Written ls a (bytes "SUBQ") L (s ∷ D n ∷ []) (SUBQ long k (direct n))
  asl : {s : Text} {k n : ℕ} → imm8 s ≡ Some (pos k) → 1 ≤ k → k ≤ 8 → n < 8
      → Written ls a (bytes "ASL") L (s ∷ D n ∷ []) (ASL long k n)
  nop : Written ls a (bytes "NOP") None [] NOP
  branch : (c : Branch) {s : Text} {z : ℤ} → Displaced ls a s z → z ≢ pos 0 → z ≢ negsuc 0
      → Written ls a (branch_name c) None (s ∷ []) (Bcc (condition_of c) z)

-- the line l, at address a with the labels ls, is an instruction of the manual
pub record LineSays (ls : Table) (a : ℕ) (l : Text) (i : Instruction) : Type 0 where
  pub said : Said
  pub read : (line_of l).task ≡ instruction said
  pub written : Written ls a said.mnemonic said.suffix said.operands i

-- all that the second pass emits for the line l at address a with the labels ls
unfoldable pub emitted : Table → ℕ → Text → List Place
emitted ls a l = second_pass (record { labels = ls; puts = record { address = a; task = (line_of l).task } ∷ [] })

-- words at a, a + 2 and so on, each with mark 0
unfoldable pub marked_zero : ℕ → List ℕ → List Place
marked_zero a [] = []
marked_zero a (w ∷ ws) = record { address = a; word = w; mark = 0 } ∷ marked_zero (a + 2) ws

-- the words emitted, their number and their marks are the manual's words with mark 0
abbrev pub LinesAreTheManuals : Type 0
LinesAreTheManuals =
    (ls : Table) (a : ℕ) (l : Text) (i : Instruction) → LineSays ls a l i → emitted ls a l ≡ marked_zero a (manual_words i)

-- what stands before and after the words of the line after the first j ones, in the list that an encoder makes of what the first pass came
-- to: all data words and the earlier lines' words; the later lines' words
unfoldable pub words_before : Encoder → Pass → ℕ → List Place
words_before e p j = flat_map data_places p.puts ++ flat_map (code_places_by e p.labels) (take j p.puts)

unfoldable pub words_after : Encoder → Pass → ℕ → List Place
words_after e p j = flat_map (code_places_by e p.labels) (drop (suc j) p.puts)

-- on the list: for an accepted source and base, and each of its lines that is read and is an instruction of the manual, at the line's
-- address and with the source's labels, the manual's words stand there with mark 0, from that address on, in their place
unfoldable pub ListHoldsTheManuals : Type 0
ListHoldsTheManuals =
    (base : ℕ) (s : Text) (p : Pass) → pass_at base s ≡ accepted p
    → (j a : ℕ) (ns : List Text) (l : Text) → Reached size base s j a ns → IsLine s j l
    → (i : Instruction) → LineSays p.labels a l i
    → assemble base s ≡ accepted (words_before encode p j ++ (marked_zero a (manual_words i) ++ words_after encode p j))

-- every word of the extension has sixteen bits
abbrev pub Words : List ℕ → Type 0
Words [] = Unit
Words (w ∷ ws) = (w < 2 ^ 16) × Words ws

-- in the manual's words of a line no field runs over into another
abbrev pub FieldsHold : Type 0
FieldsHold =
    (ls : Table) (a : ℕ) (l : Text) (i : Instruction) → LineSays ls a l i → Layout (layout i) × Words (extensions i)

-- a displacement or a datum of eight bits is read back from its byte
abbrev pub BytesReadBack : Type 0
BytesReadBack = (z : ℤ) → InByte z → (byte z < 256) × (sign_of (byte z) ≡ z)

-- and a datum of 1 to 8 from its three bits
abbrev pub QuickReadsBack : Type 0
QuickReadsBack = (k : ℕ) → 1 ≤ k → k ≤ 8 → (quick k < 8) × (quick_of (quick k) ≡ k)

-- the label X at 16
abbrev pub X : Table
X = record { name = bytes "X"; start = 0; address = 16; line = 1 } ∷ []

-- every form has a line; every branch one with a label and one with a signed number
pub record EveryFormHasALine : Type 0 where
  pub moveq : LineSays [] 0 (bytes "MOVEQ #3,D1") (MOVEQ (pos 3) 1)
  pub labelled : LineSays [] 0 (bytes " x: moveq #$-80 , D7") (MOVEQ (negsuc 127) 7)
  pub load : LineSays [] 0 (bytes "MOVE.L (A2),D3") (MOVE long (indirect 2) (direct 3))
  pub store : LineSays [] 0 (bytes "MOVE.L D4,(A5)") (MOVE long (direct 4) (indirect 5))
  pub copy : LineSays [] 0 (bytes "MOVE.W D6,D7") (MOVE word (direct 6) (direct 7))
  pub muls_data : LineSays [] 0 (bytes "MULS.W #0xFFFF,D0") (MULS (immediate 65535) 0)
  pub muls : LineSays [] 0 (bytes "MULS.W D1,D2") (MULS (direct 1) 2)
  pub add : LineSays [] 0 (bytes "ADD.W D3,D4") (ADD word (direct 3) 4)
  pub sub : LineSays [] 0 (bytes "SUB.W D5,D6") (SUB word (direct 5) 6)
  pub cmp : LineSays [] 0 (bytes "CMP.W D7,D0") (CMP word (direct 7) 0)
  pub tst : LineSays [] 0 (bytes "TST.L D1") (TST long (direct 1))
  pub subq : LineSays [] 0 (bytes "SUBQ.L #8,D2") (SUBQ long 8 (direct 2))
  pub asl : LineSays [] 0 (bytes "ASL.L #1,D3") (ASL long 1 3)
  pub nop : LineSays [] 0 (bytes "NOP") NOP
  pub branch : (c : Branch) → LineSays X 0 (branch_name c ++ bytes " X") (Bcc (condition_of c) (pos 14))
  pub branch_back : (c : Branch) → LineSays X 0 (branch_name c ++ bytes " -2") (Bcc (condition_of c) (negsuc 1))
