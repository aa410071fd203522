-- The words of an instruction, by the rules' second pass. Assumes nothing.
use Rattle.std.specs.Prelude.{ℕ, ◌+◌, ◌*◌, Bool, true, false, ◌&&◌, ◌||◌, cond, List, [], ◌∷◌, ◌++◌, ltb, eqb, ℤ, Option, None, Some}
use Rattle.std.proofs.Math.IntN.{sub_ℕ}
use Rattle.rules.specs.Option.{bind, or_else}
use Rattle.rules.specs.Text.{Text, bytes, same, starts, after}
use Rattle.rules.specs.Number.{digit_value, Reading, value_of, signed_reading, within, modulo, hex_tail, number16, imm8, imm16}
use Rattle.rules.specs.Line.{Instruction}
use Rattle.rules.specs.Label.{Table, find}

-- what the list holds, before it has addresses and marks: a number as it stands, a label's address in one word, or one of 32 bits in two
pub data Content : Type 0 where
  literal : ℕ → Content
  address : ℕ → Content
  long_address : ℕ → Content

-- what a mnemonic names
pub data Operation : Type 0 where
  moveq move movea muls tst subq asl dbra nop simhalt add sub cmp jmp : Operation
  branch : ℕ → Operation

pub record Mnemonic : Type 0 where
  pub name : Text
  pub operation : Operation

abbrev pub mnemonic : Text → Operation → Mnemonic
mnemonic n o = record { name = n; operation = o }

-- "Mnemonics are compared as fixed byte strings": those of the branches, with their conditions, and the others
unfoldable pub branches : List Mnemonic
branches =
    mnemonic (bytes "BRA") (branch 0) ∷ mnemonic (bytes "BCC") (branch 4) ∷ mnemonic (bytes "BCS") (branch 5)
    ∷ mnemonic (bytes "BNE") (branch 6) ∷ mnemonic (bytes "BEQ") (branch 7) ∷ mnemonic (bytes "BPL") (branch 8)
    ∷ mnemonic (bytes "BMI") (branch 9) ∷ mnemonic (bytes "BGE") (branch 12) ∷ mnemonic (bytes "BLT") (branch 13)
    ∷ mnemonic (bytes "BGT") (branch 14) ∷ mnemonic (bytes "BLE") (branch 15) ∷ []

unfoldable pub other_mnemonics : List Mnemonic
other_mnemonics =
    mnemonic (bytes "MOVEQ") moveq ∷ mnemonic (bytes "MOVE") move ∷ mnemonic (bytes "MOVEA") movea
    ∷ mnemonic (bytes "MULS") muls ∷ mnemonic (bytes "TST") tst ∷ mnemonic (bytes "SUBQ") subq
    ∷ mnemonic (bytes "ASL") asl ∷ mnemonic (bytes "DBRA") dbra ∷ mnemonic (bytes "NOP") nop
    ∷ mnemonic (bytes "SIMHALT") simhalt ∷ mnemonic (bytes "ADD") add ∷ mnemonic (bytes "SUB") sub
    ∷ mnemonic (bytes "CMP") cmp ∷ mnemonic (bytes "JMP") jmp ∷ mnemonic (bytes "JUMP") jmp ∷ []

unfoldable pub mnemonics : List Mnemonic
mnemonics = other_mnemonics ++ branches

unfoldable pub operation_in : List Mnemonic → Text → Option Operation
operation_in [] m = None
operation_in (n ∷ ns) m = elim (same m n.name) [ true ↦ Some n.operation | false ↦ operation_in ns m ]

-- "R(n) is register n in bits 9 to 11."
unfoldable pub R : ℕ → ℕ
R n = 512 * n

-- one byte, a "digit 0 to 7"
unfoldable pub register_digit : Option Text → Option ℕ
register_digit None = None
register_digit (Some []) = None
register_digit (Some (b ∷ [])) = cond (ltb (digit_value b) 8) (Some (digit_value b)) None
register_digit (Some (b ∷ c ∷ s)) = None

-- "Dn or An is two bytes, upper case, digit 0 to 7."
unfoldable pub data_register : Text → Option ℕ
data_register s = register_digit (after (bytes "D") s)

unfoldable pub address_register : Text → Option ℕ
address_register s = register_digit (after (bytes "A") s)

-- (An): the digit, then a closing bracket
unfoldable pub closed : Option Text → Option ℕ
closed None = None
closed (Some []) = None
closed (Some (b ∷ [])) = None
closed (Some (b ∷ c ∷ [])) = cond (eqb c 41) (register_digit (Some (b ∷ []))) None
closed (Some (b ∷ c ∷ d ∷ s)) = None

unfoldable pub indirect : Text → Option ℕ
indirect s = closed (after (bytes "(A") s)

-- one after the other, and the first that is there: Option's `bind` and `or_else`, as operators
infixr 20 ◌>>=◌
abbrev pub ◌>>=◌ : {A B : Type 0} → Option A → (A → Option B) → Option B
◌>>=◌ o f = bind o f

infixr 15 ◌else◌
abbrev pub ◌else◌ : {A : Type 0} → Option A → Option A → Option A
◌else◌ a b = or_else a b

-- "Operand counts are exact, but branches need one or more"
unfoldable pub two : {A : Type 0} → (Text → Text → Option A) → List Text → Option A
two f [] = None
two f (s ∷ []) = None
two f (s ∷ t ∷ []) = f s t
two f (s ∷ t ∷ u ∷ ps) = None

unfoldable pub one : {A : Type 0} → (Text → Option A) → List Text → Option A
one f [] = None
one f (s ∷ []) = f s
one f (s ∷ t ∷ ps) = None

unfoldable pub one_or_more : {A : Type 0} → (Text → Option A) → List Text → Option A
one_or_more f [] = None
one_or_more f (s ∷ ps) = f s

-- "its address minus (instruction address + 2), if −128 to 127"
unfoldable pub reach : ℕ → ℕ → Option ℤ
reach t a = within 128 (sub_ℕ t (a + 2))

-- "an operand starting + or − is read as signed 8 bits, decimal, without a prefix", no other is
unfoldable pub written_reading : Text → Option (Reading ℤ)
written_reading s = cond (starts (bytes "+") s || starts (bytes "-") s) (Some (signed_reading 10 128 s)) None

-- its number, if it is read
unfoldable pub written_signed : Text → Option ℤ
written_signed s = written_reading s >>= value_of

-- the displacement d of a branch at address a
unfoldable pub displacement : Table → ℕ → Text → Option ℤ
displacement ls a s = (find s ls >>= λ t. reach t a) else written_signed s

unfoldable pub all_digits : Text → Bool
all_digits [] = true
all_digits (b ∷ s) = ltb (digit_value b) 10 && all_digits s

unfoldable pub is_some : {A : Type 0} → Option A → Bool
is_some None = false
is_some (Some a) = true

-- JMP: "an operand starting `$` or `0x`, or of digits only, must be a 16-bit number, any other a recorded label"
unfoldable pub jumps : Table → Text → Bool
jumps ls s = cond (is_some (hex_tail s) || all_digits s) (is_some (number16 s)) (is_some (find s ls))

-- one word; a word and an extension word; a word and the address of the label l
abbrev pub word : ℕ → Option (List Content)
word w = Some (literal w ∷ [])

abbrev pub with_value : ℕ → ℕ → Option (List Content)
with_value w v = Some (literal w ∷ literal v ∷ [])

unfoldable pub with_label : Table → ℕ → Text → Option (List Content)
with_label ls w l = do x ← find l ls; Some (literal w ∷ address x ∷ [])

-- ---- the stations' rows, each the words of one form by its operands s and t; w is the row's word
-- Dn,Dm
unfoldable pub registers_row : ℕ → Text → Text → Option (List Content)
registers_row w s t = do n ← data_register s; m ← data_register t; word (w + R m + n)

-- #u16,Dn with the register in bits 9 to 11, and in bits 0 to 2
unfoldable pub high_row : ℕ → Text → Text → Option (List Content)
high_row w s t = do v ← imm16 s; n ← data_register t; with_value (w + R n) v

unfoldable pub low_row : ℕ → Text → Text → Option (List Content)
low_row w s t = do v ← imm16 s; n ← data_register t; with_value (w + n) v

-- (An),Dm and Dn,(Am)
unfoldable pub from_indirect : Text → Text → Option (List Content)
from_indirect s t = do n ← indirect s; m ← data_register t; word (0x2010 + R m + n)

unfoldable pub to_indirect : Text → Text → Option (List Content)
to_indirect s t = do n ← data_register s; m ← indirect t; word (0x2080 + R m + n)

-- label,Dn and Dn,label
unfoldable pub from_label : Table → Text → Text → Option (List Content)
from_label ls s t = do n ← data_register t; with_label ls (0x2078 + R n) s

unfoldable pub to_label : Table → Text → Text → Option (List Content)
to_label ls s t = do n ← data_register s; with_label ls (0x23C0 + n) t

-- "MOVE tries in order"
unfoldable pub move_rows : Table → Text → Text → Option (List Content)
move_rows ls s t =
    high_row 0x21FC s t
    else from_indirect s t
    else to_indirect s t
    else registers_row 0x3000 s t
    else from_label ls s t
    else to_label ls s t

-- MOVEA #label,An: "the name is all after `#`, also when empty"
unfoldable pub movea_row : Table → Text → Text → Option (List Content)
movea_row ls s t = do l ← after (bytes "#") s; n ← address_register t; with_label ls (0x207C + R n) l

unfoldable pub muls_rows : Text → Text → Option (List Content)
muls_rows s t = high_row 0xC1FC s t else registers_row 0xC1C0 s t

unfoldable pub cmp_rows : Text → Text → Option (List Content)
cmp_rows s t = low_row 0x0C80 s t else registers_row 0xB040 s t

unfoldable pub moveq_row : Text → Text → Option (List Content)
moveq_row s t = do v ← imm8 s; n ← data_register t; word (0x7000 + R n + modulo 256 v)

-- SUBQ and ASL: "low three bits of the value in bits 9 to 11"
unfoldable pub quick_row : ℕ → Text → Text → Option (List Content)
quick_row w s t = do v ← imm8 s; n ← data_register t; word (w + n + R (modulo 8 v))

-- TST Dn
unfoldable pub tst_row : Text → Option (List Content)
tst_row s = do n ← data_register s; word (0x4A80 + n)

-- JMP or JUMP
unfoldable pub jump_row : Table → Text → Option (List Content)
jump_row ls s = cond (jumps ls s) (word 0x4EF8) None

-- "DBRA Dn,d", at address a
unfoldable pub dbra_row : Table → ℕ → Text → Text → Option (List Content)
dbra_row ls a s t = do n ← data_register s; d ← displacement ls a t; word (0x51C8 + n)

-- "$6000 + 256 × condition + (d modulo 256)"
unfoldable pub branch_row : Table → ℕ → ℕ → Text → Option (List Content)
branch_row ls a c s = do d ← displacement ls a s; word (0x6000 + 256 * c + modulo 256 d)

-- the words of an operation at address a, by the labels ls
unfoldable pub encode_operation : Table → ℕ → Operation → List Text → Option (List Content)
encode_operation ls a move = two (move_rows ls)
encode_operation ls a movea = two (movea_row ls)
encode_operation ls a muls = two muls_rows
encode_operation ls a add = two (registers_row 0xD040)
encode_operation ls a sub = two (registers_row 0x9040)
encode_operation ls a cmp = two cmp_rows
encode_operation ls a moveq = two moveq_row
encode_operation ls a subq = two (quick_row 0x5180)
encode_operation ls a asl = two (quick_row 0xE180)
encode_operation ls a tst = one tst_row
encode_operation ls a nop = λ ps. word 0x4E71
encode_operation ls a simhalt = λ ps. word 0x4E72
encode_operation ls a jmp = one (jump_row ls)
encode_operation ls a dbra = two (dbra_row ls a)
encode_operation ls a (branch c) = one_or_more (branch_row ls a c)

-- the words of an instruction, the mnemonics being those in use
unfoldable pub encode_by : List Mnemonic → Table → ℕ → Instruction → Option (List Content)
encode_by names ls a i = do o ← operation_in names i.mnemonic; encode_operation ls a o i.operands

-- the stations'
abbrev pub encode : Table → ℕ → Instruction → Option (List Content)
encode ls a i = encode_by mnemonics ls a i
