-- `form::load`, row by row. Assumes nothing.
use mathlib.Core.Path.{refl}
use Rattle.rules.specs.Encode.{two}
use Rattle.requests.specs.ManualCall.{form_of}
use Rattle.encode_manual.proofs.Forms.{stops, goes, row_one, skips, said_word, said_long}
use Rattle.encode_manual.proofs.Operands.{other, not_other, to_register}
use Rattle.encode_manual.proofs.Words.{the_words, load_word}
use Rattle.encode_manual.proofs.form.load.Goals as goal

pub returns-in-Some : goal.returns-in-Some
unfolding form_of two
returns-in-Some c = λ t e. rw (to_register c.args.s.now t _ e) (row_one _ c.immediate32.ensures _ _ c.in-Some.is (said_long _ (the_words.move_data _ _) c.with_high.ensures))

pub returns-in-Some-parse_indirect_register : goal.returns-in-Some-parse_indirect_register
unfolding form_of two
returns-in-Some-parse_indirect_register c = λ t e. rw (to_register c.args.s.now t _ e) (skips _ c.immediate32.ensures _ _ c.in_default.is (row_one _ c.parse_indirect_register.ensures _ _ c.in-Some-parse_indirect_register.is (said_word _ (the_words.load_from _ _) c.with_registers.ensures)))

pub returns-then-not-is_other_text : goal.returns-then-not-is_other_text
unfolding form_of two
returns-then-not-is_other_text c = λ t e. rw (to_register c.args.s.now t _ e) (skips _ c.immediate32.ensures _ _ c.in_default.is (skips _ c.parse_indirect_register.ensures _ _ c.in_default-parse_indirect_register.is (stops _ _ (not_other _ c.is_other_text.ensures c.if-not-is_other_text.true) refl refl)))

pub returns : goal.returns
unfolding form_of two
returns c = λ t e. rw (to_register c.args.s.now t _ e) (skips _ c.immediate32.ensures _ _ c.in_default.is (skips _ c.parse_indirect_register.ensures _ _ c.in_default-parse_indirect_register.is (goes _ _ (other _ c.is_other_text.ensures c.if-not-is_other_text.false) refl (record { says = (load_word _ c.with_high-2.ensures, refl) }))))
