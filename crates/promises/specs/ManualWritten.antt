-- The manual's call: the forms as they are written, each with its instruction of the manual and the marks of its words,
-- said of the text and apart from how it is read; and that these have their words, and nothing else has. Assumes nothing.
use Rattle.std.specs.Prelude.{ℕ, ◌+◌, ◌^◌, ◌≤◌, ◌<◌, ◌≡◌, ◌≢◌, List, [], ◌∷◌, map, ℤ, pos, negsuc, neg_ℤ, ◌+ℤ◌, Option, None, Some}
use Rattle.rules.specs.Text.{Text, bytes}
use Rattle.rules.specs.Number.{read}
use Rattle.rules.specs.Line.{Instruction as Said}
use Rattle.rules.specs.Label.{Table, find}
use Rattle.rules.specs.Encode.{Content}
use Rattle.rules.specs.Forms.{text}
use Rattle.rules.specs.Assemble.{places_at}
use Rattle.manual.specs.Manual.{InByte, InWord, Layout, word, long, direct, indirect, immediate, absolute, Condition, T, CC, CS, NE, EQ, PL, MI, GE, LT, GT, LE, Instruction, MOVEQ, MOVE, MULS, ADD, SUB, CMP, TST, SUBQ, ASL, NOP, Bcc, MOVEA, CMPI, JMP, DBRA, layout, extensions, manual_words}
use Rattle.requests.specs.ManualCall.{manual_encode}
use Rattle.promises.specs.Readings.{BadDigit, worth, Means32, Means16, Means8}
use Rattle.promises.specs.Explain.{behind_hash, IsKind, Numeric}
use Rattle.promises.specs.ListedForms.{D, at_a, L, W, Words}

-- ---- operands
-- An as a text
abbrev pub A : ℕ → Text
A n = 65 ∷ (48 + n) ∷ []

-- a sign and decimal digits, of any length
pub data SignedNumber : Text → ℤ → Type 0 where
  plus : {t : Text} → t ≢ [] → ¬ BadDigit 10 t → SignedNumber (43 ∷ t) (pos (worth 10 t))
  minus : {t : Text} → t ≢ [] → ¬ BadDigit 10 t → SignedNumber (45 ∷ t) (neg_ℤ (pos (worth 10 t)))

-- the text s is a recorded label, and d leads to it from the instruction's address a plus 2
pub record Reaches (ls : Table) (a : ℕ) (s : Text) (d : ℤ) : Type 0 where
  pub target : ℕ
  pub found : find s ls ≡ Some target
  pub leads : pos (a + 2) +ℤ d ≡ pos target

-- "The eleven branches use the byte form, and a displacement of 0 is out of range for them", and so is −1; "DBRA has its 16-bit displacement"
abbrev pub InBranch : ℤ → Type 0
InBranch d = InByte d × (d ≢ pos 0) × (d ≢ negsuc 0)

-- the displacement that is taken, R being in range: the recorded label's, if it is in range, else the signed number's, if it is
pub data Takes (ls : Table) (a : ℕ) (R : ℤ → Type 0) (s : Text) (d : ℤ) : Type 0 where
  label : Reaches ls a s d → R d → Takes ls a R s d
  number : ((e : ℤ) → Reaches ls a s e → ¬ R e) → SignedNumber s d → R d → Takes ls a R s d

-- ---- mnemonics
-- "BPL is 10 and BMI 11": the eleven branches
unfoldable pub branch_named : Condition → Text
branch_named T = bytes "BRA"
branch_named CC = bytes "BCC"
branch_named CS = bytes "BCS"
branch_named NE = bytes "BNE"
branch_named EQ = bytes "BEQ"
branch_named PL = bytes "BPL"
branch_named MI = bytes "BMI"
branch_named GE = bytes "BGE"
branch_named LT = bytes "BLT"
branch_named GT = bytes "BGT"
branch_named LE = bytes "BLE"

-- "JMP (or JUMP)"
pub data Jump : Text → Type 0 where
  as_jmp : Jump (bytes "JMP")
  as_jump : Jump (bytes "JUMP")

-- ---- forms
-- mnemonic, suffix and operands that are, at address a with the labels ls, an instruction of the manual, and the marks of its words: "A
-- 32-bit label address carries mark 2 on its high word and 3 on the low", all other words carry 0
pub data WrittenHere (ls : Table) (a : ℕ) : Text → Option Text → List Text → Instruction → List ℕ → Type 0 where
  moveq : {s : Text} {z : ℤ} {n : ℕ} → Means8 s (read z) → n < 8 → WrittenHere ls a (bytes "MOVEQ") None (behind_hash s ∷ D n ∷ []) (MOVEQ z n) (0 ∷ [])
  move_data : {s : Text} {v n : ℕ} → Means32 s (read v) → n < 8
      → WrittenHere ls a (bytes "MOVE") L (behind_hash s ∷ D n ∷ []) (MOVE long (immediate v) (direct n)) (0 ∷ 0 ∷ 0 ∷ [])
  load : {n m : ℕ} → n < 8 → m < 8 → WrittenHere ls a (bytes "MOVE") L (at_a n ∷ D m ∷ []) (MOVE long (indirect n) (direct m)) (0 ∷ [])
  store : {n m : ℕ} → n < 8 → m < 8 → WrittenHere ls a (bytes "MOVE") L (D n ∷ at_a m ∷ []) (MOVE long (direct n) (indirect m)) (0 ∷ [])
  copy : {n m : ℕ} → n < 8 → m < 8 → WrittenHere ls a (bytes "MOVE") W (D n ∷ D m ∷ []) (MOVE word (direct n) (direct m)) (0 ∷ [])
  -- "MOVE to and from a label and JMP use the absolute long form"; "Only other text, or what follows MOVEA's `#`, names a label."
  load_label : {l : Text} {x n : ℕ} → IsKind l text → find l ls ≡ Some x → n < 8
      → WrittenHere ls a (bytes "MOVE") L (l ∷ D n ∷ []) (MOVE long (absolute x) (direct n)) (0 ∷ 2 ∷ 3 ∷ [])
  store_label : {l : Text} {x n : ℕ} → IsKind l text → find l ls ≡ Some x → n < 8
      → WrittenHere ls a (bytes "MOVE") L (D n ∷ l ∷ []) (MOVE long (direct n) (absolute x)) (0 ∷ 2 ∷ 3 ∷ [])
  movea : {l : Text} {x n : ℕ} → find l ls ≡ Some x → n < 8
      → WrittenHere ls a (bytes "MOVEA") L (behind_hash l ∷ A n ∷ []) (MOVEA long (immediate x) n) (0 ∷ 2 ∷ 3 ∷ [])
  muls_data : {s : Text} {v n : ℕ} → Means16 s (read v) → n < 8
      → WrittenHere ls a (bytes "MULS") W (behind_hash s ∷ D n ∷ []) (MULS (immediate v) n) (0 ∷ 0 ∷ [])
  muls : {n m : ℕ} → n < 8 → m < 8 → WrittenHere ls a (bytes "MULS") W (D n ∷ D m ∷ []) (MULS (direct n) m) (0 ∷ [])
  add : {n m : ℕ} → n < 8 → m < 8 → WrittenHere ls a (bytes "ADD") W (D n ∷ D m ∷ []) (ADD word (direct n) m) (0 ∷ [])
  sub : {n m : ℕ} → n < 8 → m < 8 → WrittenHere ls a (bytes "SUB") W (D n ∷ D m ∷ []) (SUB word (direct n) m) (0 ∷ [])
  cmp : {n m : ℕ} → n < 8 → m < 8 → WrittenHere ls a (bytes "CMP") W (D n ∷ D m ∷ []) (CMP word (direct n) m) (0 ∷ [])
  -- "CMP with `#`, which is CMPI"
  cmp_data : {s : Text} {v n : ℕ} → Means32 s (read v) → n < 8
      → WrittenHere ls a (bytes "CMP") L (behind_hash s ∷ D n ∷ []) (CMPI long v (direct n)) (0 ∷ 0 ∷ 0 ∷ [])
  tst : {n : ℕ} → n < 8 → WrittenHere ls a (bytes "TST") L (D n ∷ []) (TST long (direct n)) (0 ∷ [])
  -- "SUBQ and ASL take 1 to 8"
  subq : {s : Text} {k n : ℕ} → Means8 s (read (pos k)) → 1 ≤ k → k ≤ 8 → n < 8
      → WrittenHere ls a (bytes "SUBQ") L (behind_hash s ∷ D n ∷ []) (SUBQ long k (direct n)) (0 ∷ [])
  asl : {s : Text} {k n : ℕ} → Means8 s (read (pos k)) → 1 ≤ k → k ≤ 8 → n < 8
      → WrittenHere ls a (bytes "ASL") L (behind_hash s ∷ D n ∷ []) (ASL long k n) (0 ∷ [])
  nop : WrittenHere ls a (bytes "NOP") None [] NOP (0 ∷ [])
  jump_number : {m s : Text} {v : ℕ} → Jump m → Numeric s → Means32 s (read v) → WrittenHere ls a m None (s ∷ []) (JMP (absolute v)) (0 ∷ 0 ∷ 0 ∷ [])
  jump_label : {m l : Text} {x : ℕ} → Jump m → IsKind l text → ¬ Numeric l → find l ls ≡ Some x
      → WrittenHere ls a m None (l ∷ []) (JMP (absolute x)) (0 ∷ 2 ∷ 3 ∷ [])
  dbra : {s : Text} {n : ℕ} {d : ℤ} → n < 8 → IsKind s text → Takes ls a InWord s d → WrittenHere ls a (bytes "DBRA") None (D n ∷ s ∷ []) (DBRA n d) (0 ∷ 0 ∷ [])
  branch_to : (c : Condition) {s : Text} {d : ℤ} → IsKind s text → Takes ls a InBranch s d → WrittenHere ls a (branch_named c) None (s ∷ []) (Bcc c d) (0 ∷ [])

-- ---- words
-- every label's address has 32 bits
abbrev pub Addresses32 : Table → Type 0
Addresses32 ls = (l : Text) (x : ℕ) → find l ls ≡ Some x → x < 2 ^ 32

-- an instruction's contents at address a: the manual's words of ins, with the marks ms
pub record HasWords (a : ℕ) (cs : List Content) (ins : Instruction) (ms : List ℕ) : Type 0 where
  pub words : map (λ p. p.word) (places_at a cs) ≡ manual_words ins
  pub marks : map (λ p. p.mark) (places_at a cs) ≡ ms

-- for all these operand forms it "gives the manual's encoding": no form is left out
pub record Encoded (ls : Table) (a : ℕ) (i : Said) (ins : Instruction) (ms : List ℕ) : Type 0 where
  pub contents : List Content
  pub emits : manual_encode ls a i ≡ Some contents
  pub manual : HasWords a contents ins ms

unfoldable pub NoFormLeftOut : Type 0
NoFormLeftOut =
    (ls : Table) (a : ℕ) (i : Said) (ins : Instruction) (ms : List ℕ) → Addresses32 ls
    → WrittenHere ls a i.mnemonic i.suffix i.operands ins ms → Encoded ls a i ins ms

-- and nothing but these forms has words: what has them is written as one of them, and has its words
pub record IsManual (ls : Table) (a : ℕ) (i : Said) (cs : List Content) : Type 0 where
  pub instruction : Instruction
  pub marks : List ℕ
  pub written : WrittenHere ls a i.mnemonic i.suffix i.operands instruction marks
  pub manual : HasWords a cs instruction marks

unfoldable pub WordsAreTheManuals : Type 0
WordsAreTheManuals = (ls : Table) (a : ℕ) (i : Said) (cs : List Content) → Addresses32 ls → manual_encode ls a i ≡ Some cs → IsManual ls a i cs

-- in the manual's words of a form no field runs over into another
unfoldable pub FieldsHoldHere : Type 0
FieldsHoldHere =
    (ls : Table) (a : ℕ) (m : Text) (f : Option Text) (ps : List Text) (ins : Instruction) (ms : List ℕ) → Addresses32 ls
    → WrittenHere ls a m f ps ins ms → Layout (layout ins) × Words (extensions ins)
