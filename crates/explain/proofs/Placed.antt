-- An operand in its place, with its kind. Assumes nothing.
use mathlib.Core.Path.{◌≡◌, refl}
use Prim.Native.Nat.{ℕ}
use mathlib.Core.Bool.{Bool}
use denote.Enum.Bare.{sameb}
use Rattle.rules.specs.Text.{Text}
use Rattle.rules.specs.Label.{Table}
use Rattle.rules.specs.Forms.{Kind, hash, dn, an, at_an, text, Operand, kind_of, kind_number, kind_for, same_kind}
use Rattle.opcode.specs.Kind.{operand_kind}
use Rattle.opcode.specs.declared.register.OperandKind.{OperandKind}
use Rattle.opcode.specs.contracts.register.OperandKind.{the_type}
use Rattle.explain.specs.Operand.{fit_at, place_at}
use Rattle.explain.specs.declared.operand.Fit.{Fit}

-- the derived equality is that of the kinds
same_kinds : (k j : Kind) → sameb the_type (operand_kind k) (operand_kind j) ≡ same_kind k j
unfolding same_kind kind_number
same_kinds hash hash = refl
same_kinds hash dn = refl
same_kinds hash an = refl
same_kinds hash at_an = refl
same_kinds hash text = refl
same_kinds dn hash = refl
same_kinds dn dn = refl
same_kinds dn an = refl
same_kinds dn at_an = refl
same_kinds dn text = refl
same_kinds an hash = refl
same_kinds an dn = refl
same_kinds an an = refl
same_kinds an at_an = refl
same_kinds an text = refl
same_kinds at_an hash = refl
same_kinds at_an dn = refl
same_kinds at_an an = refl
same_kinds at_an at_an = refl
same_kinds at_an text = refl
same_kinds text hash = refl
same_kinds text dn = refl
same_kinds text an = refl
same_kinds text at_an = refl
same_kinds text text = refl

pub placed : (ls : Table) (a : ℕ) (x : Operand) (s : Text) {f : Fit} {k j : OperandKind} {y : Bool} → f ≡ fit_at ls a x s → k ≡ operand_kind (kind_of s) → j ≡ operand_kind (kind_for x)
    → y ≡ sameb the_type k j → record { met = f.met; stands = y; fault = f.fault } ≡ place_at ls a x s
placed ls a x s e p q r = rw (e, r, p, q, same_kinds (kind_of s) (kind_for x))
