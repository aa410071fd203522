-- `form::branch`: the operand is other text. Assumes nothing.
use mathlib.Core.Path.{refl}
use Rattle.rules.specs.Encode.{one}
use Rattle.requests.specs.ManualCall.{form_of}
use Rattle.encode_manual.proofs.Forms.{stops, goes}
use Rattle.encode_manual.proofs.Operands.{other, not_other}
use Rattle.encode_manual.proofs.form.branch.Goals as goal

pub returns-then-not-is_other_text : goal.returns-then-not-is_other_text
unfolding form_of one
returns-then-not-is_other_text c = λ k e. stops _ _ (not_other _ c.is_other_text.ensures c.if-not-is_other_text.true) refl refl

pub returns : goal.returns
unfolding form_of one
returns c = λ k e. goes _ _ (other _ c.is_other_text.ensures c.if-not-is_other_text.false) refl (record { says = (e, refl) })
