-- `displacement::written`, by whether the operand starts with a sign and how it reads. Assumes nothing.
use native.Mathlib.Omega.{arith}
use mir.Syntax.{w32}
use mir.Val.{SFits}
use mir.Facts.{to_z-of_z}
use borrow.Author.Rules.{sfits_of}
use Rattle.encode_manual.proofs.Written.{not_written, written, misread, err_is}
use Rattle.encode_manual.proofs.displacement.written.Goals as goal

pub returns-then-not-is_signed : goal.returns-then-not-is_signed
returns-then-not-is_signed c = not_written c.args.room _ c.is_signed.ensures c.if-not-is_signed.true

pub returns-in_err-d : goal.returns-in_err-d
returns-in_err-d c = misread c.args.room _ c.is_signed.ensures c.if-not-is_signed.false c.read_signed.ensures c.in_err-d.was (err_is _ c.from_residual.ensures.1)

pub returns : goal.returns
returns c = let fit : SFits w32 c.in_ok-d.d = record { sfits = omega arith } in written c.args.room _ c.is_signed.ensures c.if-not-is_signed.false c.read_signed.ensures c.in_ok-d.was (rw (to_z-of_z (sfits_of c.from.type_inv), c.from.ensures, to_z-of_z fit) at c.placed.ensures)
