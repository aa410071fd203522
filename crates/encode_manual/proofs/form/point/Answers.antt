-- `form::point`: what follows `#` is the name. Assumes nothing.
use Rattle.std.proofs.Common.{refl, ap}
use Rattle.std.specs.Option.{option_map}
use Rattle.rules.specs.Text.{bytes}
use Rattle.rules.specs.Encode.{two}
use Rattle.requests.specs.ManualCall.{form_of}
use Rattle.encode_manual.proofs.Forms.{stops, goes}
use Rattle.encode_manual.proofs.Words.{point_word}
use Rattle.encode_manual.proofs.form.point.Goals as goal

pub returns-in_err-name : goal.returns-in_err-name
unfolding form_of two bytes
returns-in_err-name c = stops _ _ c.after_byte.ensures (ap (option_map (λ r. r.now)) c.in_err-name.was) c.from_residual.ensures

pub returns-in_err-n : goal.returns-in_err-n
unfolding form_of two bytes
returns-in_err-n c = goes _ _ c.after_byte.ensures (ap (option_map (λ r. r.now)) c.in_ok-name.was) (stops _ _ c.parse_address_register.ensures c.in_err-n.was c.from_residual-in_err-n.ensures)

pub returns : goal.returns
unfolding form_of two bytes
returns c = goes _ _ c.after_byte.ensures (ap (option_map (λ r. r.now)) c.in_ok-name.was) (goes _ _ c.parse_address_register.ensures c.in_ok-n.was (record { says = (point_word _ c.with_high.ensures, refl) }))
