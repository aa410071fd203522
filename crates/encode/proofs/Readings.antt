-- Operands read one by one; low bits, displacements and JMP's operand. Assumes nothing.
use Rattle.std.specs.Prelude.{Option, None, Some, Result, Ok}
use Rattle.std.specs.Result.{result_ok, is_ok}
use Rattle.rules.specs.Option.{bind}
use mathlib.Core.Path.{◌≡◌, refl, sym, ap, ◌∙◌}
use Prim.Native.Nat.{ℕ, ◌%◌, ◌<◌, ◌^◌}
use lib.Bits.{and_mask}
use lib.IntN.{ℤ}
use Rattle.rules.specs.Text.{Text}
use Rattle.rules.specs.Number.{Reading, read, failed, modulo, value_of, reading16, reading8, immediate, imm16, imm8}
use Rattle.rules.specs.Encode.{data_register, address_register, indirect, is_some}
use Rattle.rules.proofs.Readings.{imm16_all, all_some}
use Rattle.numeral.specs.Number.{result_of, number_of, immediate_of, signed_immediate_of}
use Rattle.numeral.specs.declared.Failure.{Failure}
use Rattle.numeral.proofs.Sign.{low_three}
use Rattle.opcode.proofs.Callers.{data_small, address_small, indirect_small}

-- a register that is read is 0 to 7
pub data_below : (t : Text) (n : ℕ) → data_register t ≡ Some n → n < 8
data_below t n e = data_small t n e

pub address_below : (t : Text) (n : ℕ) → address_register t ≡ Some n → n < 8
address_below t n e = address_small t n e

pub indirect_below : (t : Text) (n : ℕ) → indirect t ≡ Some n → n < 8
indirect_below t n e = indirect_small t n e

-- the value of a reading, as `ok` gives it
pub value_is : {A : Type 0} (r : Reading A) → value_of r ≡ result_ok (result_of r)
unfolding value_of
value_is (read a) = refl
value_is (failed x) = refl

pub number_read : (r : Reading ℕ) → is_some (value_of r) ≡ is_ok (number_of r)
unfolding value_of is_some
number_read (read v) = refl
number_read (failed x) = refl

-- an immediate, as the code has it
module _ (s : Text) {x : Option (Result ℕ Failure)} (e : x ≡ immediate_of (immediate reading16 s)) where
  pub imm16_none : None ≡ x → None ≡ imm16 s
  unfolding imm16 bind
  imm16_none h = go (immediate reading16 s) (h ∙ e)
    where
      go : (o : Option (Reading ℕ)) → None ≡ immediate_of o → None ≡ bind o value_of
      go None q = refl
      go (Some r) q = cc

  pub imm16_is : {r : Result ℕ Failure} → x ≡ Some r → imm16 s ≡ result_ok r
  unfolding imm16 bind
  imm16_is {r} h = go (immediate reading16 s) (sym e ∙ h)
    where
      go : (o : Option (Reading ℕ)) → immediate_of o ≡ Some r → bind o value_of ≡ result_ok r
      go None q = cc
      go (Some y) q = let k : result_of y ≡ r = cc in rw (value_is y, k)

  pub imm16_below : {r : Result ℕ Failure} {v : ℕ} → x ≡ Some r → r ≡ Ok v → v < 2 ^ 16
  imm16_below h k = all_some (λ (w : ℕ). w < 2 ^ 16) (imm16_all s) (imm16_is h ∙ ap result_ok k)

module _ (s : Text) {x : Option (Result ℤ Failure)} (e : x ≡ signed_immediate_of (immediate reading8 s)) where
  pub imm8_none : None ≡ x → None ≡ imm8 s
  unfolding imm8 bind
  imm8_none h = go (immediate reading8 s) (h ∙ e)
    where
      go : (o : Option (Reading ℤ)) → None ≡ signed_immediate_of o → None ≡ bind o value_of
      go None q = refl
      go (Some r) q = cc

  pub imm8_is : {r : Result ℤ Failure} → x ≡ Some r → imm8 s ≡ result_ok r
  unfolding imm8 bind
  imm8_is {r} h = go (immediate reading8 s) (sym e ∙ h)
    where
      go : (o : Option (Reading ℤ)) → signed_immediate_of o ≡ Some r → bind o value_of ≡ result_ok r
      go None q = cc
      go (Some y) q = let k : result_of y ≡ r = cc in rw (value_is y, k)

-- the low three bits of a number are those of its low byte
pub low_three_of_byte : (z : ℤ) → modulo 256 z % 8 ≡ modulo 8 z
low_three_of_byte z = sym (and_mask (modulo 256 z) 3) ∙ low_three z
