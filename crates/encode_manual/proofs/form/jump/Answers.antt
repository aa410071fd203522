-- `form::jump`: a number where the operand looks like one, else a label. Assumes nothing.
use mathlib.Core.Path.{refl}
use Rattle.rules.specs.Encode.{one}
use Rattle.requests.specs.ManualCall.{form_of}
use Rattle.encode_manual.proofs.Forms.{stops, goes, said_long}
use Rattle.encode_manual.proofs.Operands.{other, not_other, numeric, named}
use Rattle.encode_manual.proofs.Words.{the_words, jump_word}
use Rattle.encode_manual.proofs.form.jump.Goals as goal

pub returns-then-not-is_other_text : goal.returns-then-not-is_other_text
unfolding form_of one
returns-then-not-is_other_text c = stops _ _ (not_other _ c.is_other_text.ensures c.if-not-is_other_text.true) refl refl

pub returns-in_err-v : goal.returns-in_err-v
unfolding form_of one
returns-in_err-v c = goes _ _ (other _ c.is_other_text.ensures c.if-not-is_other_text.false) refl (rw (numeric c.args.s.now c.looks_numeric.ensures c.if-looks_numeric.true) (stops _ _ c.number32.ensures c.in_err-v.was c.from_residual.ensures))

pub returns-then-looks_numeric : goal.returns-then-looks_numeric
unfolding form_of one
returns-then-looks_numeric c = goes _ _ (other _ c.is_other_text.ensures c.if-not-is_other_text.false) refl (rw (numeric c.args.s.now c.looks_numeric.ensures c.if-looks_numeric.true) (goes _ _ c.number32.ensures c.in_ok-v.was (said_long _ (the_words.jmp _) refl)))

pub returns : goal.returns
unfolding form_of one
returns c = goes _ _ (other _ c.is_other_text.ensures c.if-not-is_other_text.false) refl (rw (named c.args.s.now c.looks_numeric.ensures c.if-looks_numeric.false) (record { says = (jump_word, refl) }))
