-- `form::multiply`: the immediate row, else the registers. Assumes nothing.
use Prim.Native.Nat.{◌^◌, ◌<◌}
use mathlib.Core.Path.{sym, ◌∙◌}
use native.Mathlib.Omega.{arith}
use Rattle.rules.specs.Encode.{two}
use Rattle.requests.specs.ManualCall.{form_of}
use Rattle.rules.proofs.Readings.{all_some, imm16_all}
use Rattle.manual.specs.Manual.{direct, MULS}
use Rattle.encode_manual.proofs.Forms.{no_reading, row_two, skips, said_value}
use Rattle.encode_manual.proofs.Operands.{no_product}
use Rattle.encode_manual.proofs.Words.{the_words}
use Rattle.encode_manual.proofs.form.multiply.Goals as goal

pub returns-in_default : goal.returns-in_default
unfolding form_of two
returns-in_default c = skips _ c.immediate16.ensures _ _ c.in_default.is (c.registers.ensures (λ n m. MULS (direct n) m) the_words.muls)

pub returns-in_err-n : goal.returns-in_err-n
returns-in_err-n c = rw (c.from_residual.ensures, no_product c.args.s.now c.args.t.now (sym c.parse_data_register.ensures ∙ c.in_err-n.was)) no_reading

pub overflow_cast-result : goal.overflow_cast-result
overflow_cast-result c = omega (arith, all_some (λ v. v < 2 ^ 16) (imm16_all c.args.s.now) (sym c.immediate16.ensures ∙ c.in-Some.is))

pub returns : goal.returns
unfolding form_of two
returns c = row_two _ c.immediate16.ensures _ c.parse_data_register.ensures _ _ c.in-Some.is c.in_ok-n.was (said_value _ (the_words.muls_data _ _) c.with_high.ensures)
