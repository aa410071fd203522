-- `form::quick_move` reads a byte and a data register. Assumes nothing.
use Rattle.rules.specs.Encode.{two}
use Rattle.requests.specs.ManualCall.{form_of}
use mathlib.Core.Path.{◌≡◌, sym, ◌∙◌}
use native.Mathlib.Omega.{arith}
use mir.Syntax.{w32}
use mir.Val.{SFits}
use mir.Facts.{to_z-of_z}
use Rattle.rules.specs.Number.{modulo}
use Rattle.encode_manual.proofs.Forms.{stops, goes, said_word}
use Rattle.encode_manual.proofs.Operands.{moveq_byte}
use Rattle.encode_manual.proofs.Words.{the_words}
use Rattle.encode_manual.proofs.form.quick_move.Goals as goal

pub returns-in_err-n : goal.returns-in_err-n
unfolding form_of two
returns-in_err-n c = goes _ _ c.immediate8.ensures c.in_ok-v.was (stops _ _ c.parse_data_register.ensures c.in_err-n.was c.from_residual-in_err-n.ensures)

pub returns : goal.returns
unfolding form_of two
returns c = let fit : SFits w32 c.in_ok-v.v = record { sfits = omega arith } in let low : c.low_byte.result ≡ modulo 256 c.in_ok-v.v = rw (to_z-of_z fit) at c.low_byte.ensures in
    goes _ _ c.immediate8.ensures c.in_ok-v.was (goes _ _ c.parse_data_register.ensures c.in_ok-n.was (said_word _ (the_words.moveq _ _) (rw (moveq_byte c.args.s.now _ (sym c.immediate8.ensures ∙ c.in_ok-v.was) low) at c.moveq_word.ensures)))
