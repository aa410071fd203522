-- `form::registers` reads two data registers. Assumes nothing.
use Rattle.requests.specs.ManualCall.{registers}
use Rattle.encode_manual.proofs.Forms.{stops, goes, said_word}
use Rattle.encode_manual.proofs.form.registers.Goals as goal

pub returns-in_err-n : goal.returns-in_err-n
unfolding registers
returns-in_err-n c = λ f w. stops _ _ c.parse_data_register.ensures c.in_err-n.was c.from_residual.ensures

pub returns-in_err-m : goal.returns-in_err-m
unfolding registers
returns-in_err-m c = λ f w. goes _ _ c.parse_data_register.ensures c.in_ok-n.was (stops _ _ c.parse_data_register-2.ensures c.in_err-m.was c.from_residual-in_err-m.ensures)

pub returns : goal.returns
unfolding registers
returns c = λ f w. goes _ _ c.parse_data_register.ensures c.in_ok-n.was (goes _ _ c.parse_data_register-2.ensures c.in_ok-m.was (said_word _ (w _ _) c.with_registers.ensures))
