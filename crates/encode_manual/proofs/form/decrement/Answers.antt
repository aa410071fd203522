-- `form::decrement`: a register, and other text. Assumes nothing.
use mathlib.Core.Path.{refl}
use Rattle.rules.specs.Encode.{two}
use Rattle.requests.specs.ManualCall.{form_of}
use Rattle.encode_manual.proofs.Forms.{stops, goes}
use Rattle.encode_manual.proofs.Operands.{other, not_other}
use Rattle.encode_manual.proofs.form.decrement.Goals as goal

pub returns-then-not-is_other_text : goal.returns-then-not-is_other_text
unfolding form_of two
returns-then-not-is_other_text c = goes _ _ c.parse_data_register.ensures c.in_ok-n.was (stops _ _ (not_other _ c.is_other_text.ensures c.if-not-is_other_text.true) refl refl)

pub returns : goal.returns
unfolding form_of two
returns c = goes _ _ c.parse_data_register.ensures c.in_ok-n.was (goes _ _ (other _ c.is_other_text.ensures c.if-not-is_other_text.false) refl (record { says = (c.with_low.ensures, refl) }))
