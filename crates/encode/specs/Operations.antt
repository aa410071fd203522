-- The rows of two operands, by the operation as the code's enum names it. Assumes nothing.
use Rattle.std.specs.Prelude.{ℕ, ◌<◌, ◌≡◌, List, Option, None}
use Rattle.rules.specs.Text.{Text}
use Rattle.rules.specs.Label.{Table}
use Rattle.rules.specs.Encode.{Content, registers_row, move_rows, movea_row, muls_rows, cmp_rows, moveq_row, quick_row, dbra_row}
use Rattle.opcode.specs.declared.mnemonic.Operation.{Operation}
use Rattle.opcode.specs.declared.mnemonic.Operation.TheVariants.{Moveq, Move, Movea, Muls, Tst, Subq, Asl, Dbra, Nop, Simhalt, Add, Sub, Cmp, Jmp, Branch}

-- a branch's condition has 4 bits. No invariant of Operation: its Branch is public and takes any number; and encode_manual's clause of this
-- name, which a lent table's branches need not meet, would stay
abbrev pub Conditioned : Operation → Type 0
Conditioned o = (k : ℕ) → o ≡ Branch k → k < 16

-- the rows of exactly two operands
unfoldable pub two_rows : Table → ℕ → Operation → Text → Text → Option (List Content)
two_rows ls a Moveq = moveq_row
two_rows ls a Move = move_rows ls
two_rows ls a Movea = movea_row ls
two_rows ls a Muls = muls_rows
two_rows ls a Tst = λ s t. None
two_rows ls a Subq = quick_row 0x5180
two_rows ls a Asl = quick_row 0xE180
two_rows ls a Dbra = dbra_row ls a
two_rows ls a Nop = λ s t. None
two_rows ls a Simhalt = λ s t. None
two_rows ls a Add = registers_row 0xD040
two_rows ls a Sub = registers_row 0x9040
two_rows ls a Cmp = cmp_rows
two_rows ls a Jmp = λ s t. None
two_rows ls a (Branch c) = λ s t. None
