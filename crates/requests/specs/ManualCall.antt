-- The manual's call: what an instruction says, its size, its words and its fault. Assumes nothing.
use Rattle.std.specs.Prelude.{ℕ, ◌+◌, ◌*◌, Bool, true, false, ◌&&◌, ◌||◌, cond, List, [], ◌∷◌, ◌++◌, map, leb, ltb, eqb, length, ℤ, pos, negsuc, neg_ℤ, Option, None, Some, option_map}
use Rattle.std.proofs.Math.IntN.{sub_ℕ}
use Rattle.rules.specs.Option.{bind}
use Rattle.rules.specs.Text.{Text, bytes, same, after}
use Rattle.rules.specs.Number.{value_of, some_digits, hex_tail, reading32, immediate as immediate_reading, imm8, imm16}
use Rattle.rules.specs.Line.{Instruction as Said}
use Rattle.rules.specs.Label.{Table, find}
use Rattle.rules.specs.Encode.{Content, literal, long_address, data_register, address_register, indirect as indirect_register, ◌>>=◌, ◌else◌, two, one, all_digits, is_some}
use Rattle.rules.specs.Forms.{kind_of, same_kind, text as other_kind}
use Rattle.manual.specs.Manual.{word, long, direct, indirect, immediate, absolute, Condition, T, CC, CS, NE, EQ, PL, MI, GE, LT, GT, LE, Instruction, MOVEQ, MOVE, MULS, ADD, SUB, CMP, TST, SUBQ, ASL, NOP, Bcc, MOVEA, CMPI, JMP, DBRA, operation_word, manual_words}

-- an instruction whose 32-bit address is left open: MOVE.L x,Dn; MOVE.L Dn,x; MOVEA.L #x,An; JMP x
pub data Addressing : Type 0 where
  load store point : ℕ → Addressing
  jump : Addressing

-- "MOVE to and from a label and JMP use the absolute long form"
unfoldable pub addressed : Addressing → ℕ → Instruction
addressed (load n) x = MOVE long (absolute x) (direct n)
addressed (store n) x = MOVE long (direct n) (absolute x)
addressed (point n) x = MOVEA long (immediate x) n
addressed jump x = JMP (absolute x)

-- an instruction whose displacement is left open: a branch, and DBRA Dn
pub data Branching : Type 0 where
  branch : Condition → Branching
  loop : ℕ → Branching

unfoldable pub branched : Branching → ℤ → Instruction
branched (branch c) d = Bcc c d
branched (loop n) d = DBRA n d

-- what an instruction line says: an instruction of the manual, whole, or with the label of its address, or the operand that gives
-- its displacement, still by name
pub data Form : Type 0 where
  said : Instruction → Form
  labelled : Addressing → Text → Form
  displaced : Branching → Text → Form

-- a mnemonic with its suffix
pub data Head : Type 0 where
  moveq nop jmp dbra : Head
  branch_on : Condition → Head
  move_w add_w sub_w cmp_w muls_w : Head
  move_l movea_l cmp_l tst_l subq_l asl_l : Head

pub record HeadRow : Type 0 where
  pub name : Text
  pub suffix : Option Text
  pub head : Head

abbrev plain : Text → Head → HeadRow
plain m h = record { name = m; suffix = None; head = h }

abbrev W : Text → Head → HeadRow
W m h = record { name = m; suffix = Some (bytes "W"); head = h }

abbrev L : Text → Head → HeadRow
L m h = record { name = m; suffix = Some (bytes "L"); head = h }

-- sizes are those of the forms that are "equal to the manual, and L for MOVE with `#` or a label, MOVEA and CMP with `#`"; "JMP (or JUMP) and
-- DBRA have no suffix"; "SIMHALT has no encoding here"; "BPL is 10 and BMI 11"
unfoldable pub heads : List HeadRow
heads =
    plain (bytes "MOVEQ") moveq ∷ plain (bytes "NOP") nop ∷ plain (bytes "JMP") jmp ∷ plain (bytes "JUMP") jmp ∷ plain (bytes "DBRA") dbra
    ∷ plain (bytes "BRA") (branch_on T) ∷ plain (bytes "BCC") (branch_on CC) ∷ plain (bytes "BCS") (branch_on CS)
    ∷ plain (bytes "BNE") (branch_on NE) ∷ plain (bytes "BEQ") (branch_on EQ) ∷ plain (bytes "BPL") (branch_on PL)
    ∷ plain (bytes "BMI") (branch_on MI) ∷ plain (bytes "BGE") (branch_on GE) ∷ plain (bytes "BLT") (branch_on LT)
    ∷ plain (bytes "BGT") (branch_on GT) ∷ plain (bytes "BLE") (branch_on LE)
    ∷ W (bytes "MOVE") move_w ∷ W (bytes "ADD") add_w ∷ W (bytes "SUB") sub_w ∷ W (bytes "CMP") cmp_w ∷ W (bytes "MULS") muls_w
    ∷ L (bytes "MOVE") move_l ∷ L (bytes "MOVEA") movea_l ∷ L (bytes "CMP") cmp_l ∷ L (bytes "TST") tst_l ∷ L (bytes "SUBQ") subq_l
    ∷ L (bytes "ASL") asl_l ∷ []

-- a suffix is compared as it stands; an empty one is one
unfoldable pub same_suffix : Option Text → Option Text → Bool
same_suffix None None = true
same_suffix None (Some t) = false
same_suffix (Some s) None = false
same_suffix (Some s) (Some t) = same s t

unfoldable pub head_in : List HeadRow → Text → Option Text → Option Head
head_in [] m f = None
head_in (r ∷ rs) m f = elim (same m r.name && same_suffix f r.suffix) [ true ↦ Some r.head | false ↦ head_in rs m f ]

-- "other text": no `#` in front, and none of Dn, An, (An)
unfoldable pub other_text : Text → Option Text
other_text s = cond (same_kind (kind_of s) other_kind) (Some s) None

-- "Long immediates and JMP numbers are read as 32 bits unsigned"
unfoldable pub number32 : Text → Option ℕ
number32 s = value_of (reading32 s)

unfoldable pub imm32 : Text → Option ℕ
imm32 s = bind (immediate_reading reading32 s) value_of

-- "SUBQ and ASL take 1 to 8"
unfoldable pub one_to_eight : ℤ → Option ℕ
one_to_eight (pos k) = cond (leb 1 k && leb k 8) (Some k) None
one_to_eight (negsuc k) = None

unfoldable pub quickly : Text → Option ℕ
quickly s = do v ← imm8 s; one_to_eight v

-- no operand
unfoldable pub no_operand : Form → List Text → Option Form
no_operand g [] = Some g
no_operand g (s ∷ ps) = None

-- two data registers
unfoldable pub registers : (ℕ → ℕ → Instruction) → Text → Text → Option Form
registers f s t = do n ← data_register s; m ← data_register t; Some (said (f n m))

-- the operand of JMP: "starting `$` or `0x`, or of digits only", a number, any other a label
unfoldable pub jump_to : Text → Option Form
jump_to s = cond (is_some (hex_tail s) || all_digits s) (do v ← number32 s; Some (said (JMP (absolute v)))) (Some (labelled jump s))

-- MOVE.L
unfoldable pub move_long : Text → Text → Option Form
move_long s t =
    (do v ← imm32 s; n ← data_register t; Some (said (MOVE long (immediate v) (direct n))))
    else (do n ← indirect_register s; m ← data_register t; Some (said (MOVE long (indirect n) (direct m))))
    else (do n ← data_register s; m ← indirect_register t; Some (said (MOVE long (direct n) (indirect m))))
    else (do l ← other_text s; n ← data_register t; Some (labelled (load n) l))
    else (do n ← data_register s; l ← other_text t; Some (labelled (store n) l))

-- the operand forms of a head: "NOP has no operand, a branch one"; "CMP with `#`, which is CMPI"; "Only other text, or what follows
-- MOVEA's `#`, names a label"
unfoldable pub form_of : Head → List Text → Option Form
form_of moveq = two λ s t. do v ← imm8 s; n ← data_register t; Some (said (MOVEQ v n))
form_of nop = no_operand (said NOP)
form_of jmp = one λ s. do l ← other_text s; jump_to l
form_of dbra = two λ s t. do n ← data_register s; l ← other_text t; Some (displaced (loop n) l)
form_of (branch_on c) = one λ s. do l ← other_text s; Some (displaced (branch c) l)
form_of move_w = two λ s t. registers (λ n m. MOVE word (direct n) (direct m)) s t
form_of add_w = two λ s t. registers (λ n m. ADD word (direct n) m) s t
form_of sub_w = two λ s t. registers (λ n m. SUB word (direct n) m) s t
form_of cmp_w = two λ s t. registers (λ n m. CMP word (direct n) m) s t
form_of muls_w = two λ s t. (do v ← imm16 s; n ← data_register t; Some (said (MULS (immediate v) n))) else registers (λ n m. MULS (direct n) m) s t
form_of move_l = two λ s t. move_long s t
form_of movea_l = two λ s t. do l ← after (bytes "#") s; n ← address_register t; Some (labelled (point n) l)
form_of cmp_l = two λ s t. do v ← imm32 s; n ← data_register t; Some (said (CMPI long v (direct n)))
form_of tst_l = one λ s. do n ← data_register s; Some (said (TST long (direct n)))
form_of subq_l = two λ s t. do k ← quickly s; n ← data_register t; Some (said (SUBQ long k (direct n)))
form_of asl_l = two λ s t. do k ← quickly s; n ← data_register t; Some (said (ASL long k n))

-- what an instruction says, if it has a form
unfoldable pub form : Said → Option Form
form i = do h ← head_in heads i.mnemonic i.suffix; form_of h i.operands

-- "taken as if every label were recorded and every displacement fitted": here at 0, and by 1
unfoldable pub as_if_there : Form → Instruction
as_if_there (said i) = i
as_if_there (labelled g l) = addressed g 0
as_if_there (displaced g s) = branched g (pos 1)

-- "Each instruction's size is the length of its words", "and 0 if no form fits then"
unfoldable pub form_size : Option Form → ℕ
form_size None = 0
form_size (Some g) = 2 * length (manual_words (as_if_there g))

-- a sign and decimal digits, of any length
unfoldable pub signed_digits : Text → Option ℤ
signed_digits [] = None
signed_digits (b ∷ s) =
    cond (eqb b 43) (option_map pos (value_of (some_digits 10 s)))
    (cond (eqb b 45) (option_map (λ n. neg_ℤ (pos n)) (value_of (some_digits 10 s))) None)

unfoldable pub listed : {A : Type 0} → Option A → List A
listed None = []
listed (Some x) = x ∷ []

-- the displacements that an operand gives at address a: "of a recorded label or a signed number", in this order
unfoldable pub displacements : Table → ℕ → Text → List ℤ
displacements ls a s = listed (option_map (λ t. sub_ℕ t (a + 2)) (find s ls)) ++ listed (signed_digits s)

-- "The eleven branches use the byte form, and a displacement of 0 is out of range for them"; "−1 is out of range for the eleven
-- branches"; "DBRA has its 16-bit displacement"
unfoldable pub fits : Branching → ℤ → Bool
fits (branch c) (pos n) = ltb 0 n && ltb n 128
fits (branch c) (negsuc n) = ltb 0 n && ltb n 128
fits (loop r) (pos n) = ltb n 32768
fits (loop r) (negsuc n) = ltb n 32768

unfoldable pub first_that : (ℤ → Bool) → List ℤ → Option ℤ
first_that f [] = None
first_that f (d ∷ ds) = elim (f d) [ true ↦ Some d | false ↦ first_that f ds ]

-- an instruction with the label's address x in it, a 32-bit one
unfoldable pub with_address : Addressing → ℕ → List Content
with_address g x = literal (operation_word (addressed g x)) ∷ long_address x ∷ []

-- the words of a form at address a, by the labels ls
unfoldable pub form_contents : Table → ℕ → Form → Option (List Content)
form_contents ls a (said i) = Some (map literal (manual_words i))
form_contents ls a (labelled g l) = do x ← find l ls; Some (with_address g x)
form_contents ls a (displaced g s) = do d ← first_that (fits g) (displacements ls a s); Some (map literal (manual_words (branched g d)))

-- 14 where there is no displacement at all, 15 where there is one and none fits
unfoldable pub range_fault : (ℤ → Bool) → List ℤ → Option ℕ
range_fault f [] = Some 14
range_fault f (d ∷ ds) = cond (is_some (first_that f (d ∷ ds))) None (Some 15)

-- "14: an instruction with no encoding here; 15: one whose only fault is a displacement, of a recorded label or a signed number, out of range"
unfoldable pub form_fault : Table → ℕ → Option Form → Option ℕ
form_fault ls a None = Some 14
form_fault ls a (Some (said i)) = None
form_fault ls a (Some (labelled g l)) = cond (is_some (find l ls)) None (Some 14)
form_fault ls a (Some (displaced g s)) = range_fault (fits g) (displacements ls a s)

-- the same of an instruction as it is written: its size, which knows neither labels nor an address; its words; its fault
unfoldable pub manual_size : Said → ℕ
manual_size i = form_size (form i)

unfoldable pub manual_encode : Table → ℕ → Said → Option (List Content)
manual_encode ls a i = do g ← form i; form_contents ls a g

unfoldable pub manual_fault : Table → ℕ → Said → Option ℕ
manual_fault ls a i = form_fault ls a (form i)
