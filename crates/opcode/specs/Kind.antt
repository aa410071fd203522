-- The kinds of operands, as the code's enum. Assumes nothing.
use Rattle.rules.specs.Forms.{Kind, hash, dn, an, at_an, text}
use Rattle.opcode.specs.declared.register.OperandKind.{OperandKind}
use Rattle.opcode.specs.declared.register.OperandKind.TheVariants.{Hash, Dn, An, AtAn, Text}

-- variant by variant
abbrev pub operand_kind : Kind → OperandKind
operand_kind hash = Hash
operand_kind dn = Dn
operand_kind an = An
operand_kind at_an = AtAn
operand_kind text = Text
