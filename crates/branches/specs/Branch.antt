-- The mnemonics in use where a branch table may be lent; and what the code's functions pass on. Assumes nothing.
use Rattle.std.specs.Prelude.{ℕ, ◌+◌, ◌*◌, ◌<◌, Bool, true, false, List, length, Option, None, Some}
use Rattle.rules.specs.Text.{Text}
use Rattle.rules.specs.Encode.{Mnemonic, mnemonics}
use Rattle.requests.specs.Branches.{rows, names_with}
use Rattle.opcode.specs.declared.mnemonic.Operation.{Operation}
use Rattle.opcode.specs.declared.mnemonic.Operation.TheVariants.{Moveq, Move, Movea, Muls, Tst, Subq, Asl, Dbra, Nop, Simhalt, Add, Sub, Cmp, Jmp, Branch}

-- the stations', or those under the table that is lent: no table and a table without rows are not the same
unfoldable pub names_in : Option Text → List Mnemonic
names_in None = mnemonics
names_in (Some t) = names_with (rows t)

-- an operation that is found, and no branch
abbrev pub is_other : Option Operation → Bool
is_other None = false
is_other (Some (Branch c)) = false
is_other (Some Moveq) = true
is_other (Some Move) = true
is_other (Some Movea) = true
is_other (Some Muls) = true
is_other (Some Tst) = true
is_other (Some Subq) = true
is_other (Some Asl) = true
is_other (Some Dbra) = true
is_other (Some Nop) = true
is_other (Some Simhalt) = true
is_other (Some Add) = true
is_other (Some Sub) = true
is_other (Some Cmp) = true
is_other (Some Jmp) = true

-- one of the first 16 commands, and six bytes there
pub record Whole (t : Text) (k : ℕ) : Type 0 where
  pub low : k < 16
  pub fits : 6 * k + 5 < length t
