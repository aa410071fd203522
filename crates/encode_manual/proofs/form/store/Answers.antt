-- `form::store`, row by row. Assumes nothing.
use mathlib.Core.Path.{refl}
use Rattle.rules.specs.Encode.{two}
use Rattle.requests.specs.ManualCall.{form_of}
use Rattle.encode_manual.proofs.Forms.{stops, goes, row_one, skips, said_word}
use Rattle.encode_manual.proofs.Operands.{other, not_other, of_register}
use Rattle.encode_manual.proofs.Words.{the_words, store_word}
use Rattle.encode_manual.proofs.form.store.Goals as goal

pub returns-in_err-n : goal.returns-in_err-n
unfolding form_of two
returns-in_err-n c = λ e. rw (of_register c.args.s.now c.args.t.now e) (stops _ _ c.parse_data_register.ensures c.in_err-n.was c.from_residual.ensures)

pub returns-in-Some : goal.returns-in-Some
unfolding form_of two
returns-in-Some c = λ e. rw (of_register c.args.s.now c.args.t.now e) (goes _ _ c.parse_data_register.ensures c.in_ok-n.was (row_one _ c.parse_indirect_register.ensures _ _ c.in-Some.is (said_word _ (the_words.store_to _ _) c.with_registers.ensures)))

pub returns-then-not-is_other_text : goal.returns-then-not-is_other_text
unfolding form_of two
returns-then-not-is_other_text c = λ e. rw (of_register c.args.s.now c.args.t.now e) (goes _ _ c.parse_data_register.ensures c.in_ok-n.was (skips _ c.parse_indirect_register.ensures _ _ c.in_default.is (stops _ _ (not_other _ c.is_other_text.ensures c.if-not-is_other_text.true) refl refl)))

pub returns : goal.returns
unfolding form_of two
returns c = λ e. rw (of_register c.args.s.now c.args.t.now e) (goes _ _ c.parse_data_register.ensures c.in_ok-n.was (skips _ c.parse_indirect_register.ensures _ _ c.in_default.is (goes _ _ (other _ c.is_other_text.ensures c.if-not-is_other_text.false) refl (record { says = (store_word _ c.with_low.ensures, refl) }))))
