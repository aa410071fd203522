-- The stations' forms as a table: of each operation the count of its operands and what its forms have in their places; and the
-- kinds of operands. Assumes nothing.
use Rattle.std.specs.Prelude.{ℕ, Bool, true, false, ◌&&◌, cond, List, [], ◌∷◌, leb, eqb, Option, None, Some}
use Rattle.rules.specs.Text.{Text, bytes, starts}
use Rattle.rules.specs.Encode.{Operation, moveq, move, movea, muls, tst, subq, asl, dbra, nop, simhalt, add, sub, cmp, jmp, branch, data_register, address_register, indirect, is_some}

-- "Kinds are `#`, Dn, An, (An) and other text"
pub data Kind : Type 0 where
  hash dn an at_an text : Kind

-- an operand's kind, by its text alone
unfoldable pub kind_of : Text → Kind
kind_of s =
    cond (starts (bytes "#") s) hash
    (cond (is_some (data_register s)) dn
    (cond (is_some (address_register s)) an
    (cond (is_some (indirect s)) at_an text)))

-- a number for each, by which they are told apart
unfoldable pub kind_number : Kind → ℕ
kind_number hash = 0
kind_number dn = 1
kind_number an = 2
kind_number at_an = 3
kind_number text = 4

-- whether two kinds are one
unfoldable pub same_kind : Kind → Kind → Bool
same_kind k j = eqb (kind_number k) (kind_number j)

-- what a form has in a place: #i8, #u16, MOVEA's #label, Dn, An, (An), label, JMP's number or label, a branch's d
pub data Operand : Type 0 where
  i8 u16 hash_label Dn An AtAn label jump_target branch_target : Operand

-- the kind that stands there: "a label or number without `#` being other text"
unfoldable pub kind_for : Operand → Kind
kind_for i8 = hash
kind_for u16 = hash
kind_for hash_label = hash
kind_for Dn = dn
kind_for An = an
kind_for AtAn = at_an
kind_for label = text
kind_for jump_target = text
kind_for branch_target = text

-- "Operand counts are exact, but branches need one or more, and NOP and SIMHALT take any."
pub data Count : Type 0 where
  exactly or_more : ℕ → Count

-- whether k operands are such a count
unfoldable pub counted : Count → ℕ → Bool
counted (exactly n) k = eqb k n
counted (or_more n) k = leb n k

-- an operation's row: its count, and its forms, each what it has in its places, in order
pub record Forms : Type 0 where
  pub count : Count
  pub forms : List (List Operand)

abbrev takes : Count → List (List Operand) → Forms
takes n fs = record { count = n; forms = fs }

abbrev pair : Operand → Operand → List Operand
pair x y = x ∷ y ∷ []

-- "MOVE tries in order", and the other rows of the second pass
unfoldable pub forms_of : Operation → Forms
forms_of move = takes (exactly 2) (pair u16 Dn ∷ pair AtAn Dn ∷ pair Dn AtAn ∷ pair Dn Dn ∷ pair label Dn ∷ pair Dn label ∷ [])
forms_of movea = takes (exactly 2) (pair hash_label An ∷ [])
forms_of muls = takes (exactly 2) (pair u16 Dn ∷ pair Dn Dn ∷ [])
forms_of add = takes (exactly 2) (pair Dn Dn ∷ [])
forms_of sub = takes (exactly 2) (pair Dn Dn ∷ [])
forms_of cmp = takes (exactly 2) (pair u16 Dn ∷ pair Dn Dn ∷ [])
forms_of moveq = takes (exactly 2) (pair i8 Dn ∷ [])
forms_of subq = takes (exactly 2) (pair i8 Dn ∷ [])
forms_of asl = takes (exactly 2) (pair i8 Dn ∷ [])
forms_of tst = takes (exactly 1) ((Dn ∷ []) ∷ [])
forms_of nop = takes (or_more 0) ([] ∷ [])
forms_of simhalt = takes (or_more 0) ([] ∷ [])
forms_of jmp = takes (exactly 1) ((jump_target ∷ []) ∷ [])
forms_of dbra = takes (exactly 2) (pair Dn branch_target ∷ [])
forms_of (branch c) = takes (or_more 1) ((branch_target ∷ []) ∷ [])

-- the operands' kinds stand in a form's places; what comes after the last place is not looked at
unfoldable pub stand : List Operand → List Text → Bool
stand [] ps = true
stand (x ∷ xs) [] = false
stand (x ∷ xs) (s ∷ ps) = same_kind (kind_of s) (kind_for x) && stand xs ps

-- the form that has the operands' kinds
unfoldable pub form_with : List (List Operand) → List Text → Option (List Operand)
form_with [] ps = None
form_with (f ∷ fs) ps = cond (stand f ps) (Some f) (form_with fs ps)
