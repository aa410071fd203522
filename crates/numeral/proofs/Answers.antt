-- For callers: from the answer that the code has to the rules' number. Assumes nothing.
use Rattle.std.specs.Prelude.{Option, None, Some, Result, Ok, Err}
use Rattle.std.proofs.Common.{◌≡◌, ℕ, ℤ, sym, refl, ◌∙◌}
use Rattle.rules.specs.Option.{bind}
use Rattle.rules.specs.Text.{Text}
use Rattle.rules.specs.Number.{Reading, read, failed, signed_reading, reading16, reading8, immediate, value_of, number16, signed, imm8, imm16}
use Rattle.numeral.specs.Number.{number_of, signed_of, immediate_of, signed_immediate_of}
use Rattle.numeral.specs.declared.Failure.{Failure}

-- ---- a number of 16 bits
module _ (s : Text) {x : Result ℕ Failure} (e : x ≡ number_of (reading16 s)) where
  pub number16_some : {v : ℕ} → x ≡ Ok v → number16 s ≡ Some v
  unfolding number16 value_of
  number16_some {v} h = go (reading16 s) (sym e ∙ h)
    where
      go : (r : Reading ℕ) → number_of r ≡ Ok v → value_of r ≡ Some v
      go (read w) q = cc
      go (failed y) q = cc

  pub number16_none : {f : Failure} → x ≡ Err f → number16 s ≡ None
  unfolding number16 value_of
  number16_none {f} h = go (reading16 s) (sym e ∙ h)
    where
      go : (r : Reading ℕ) → number_of r ≡ Err f → value_of r ≡ None
      go (read w) q = cc
      go (failed y) q = refl

-- ---- a signed number
module _ (radix bound : ℕ) (s : Text) {x : Result ℤ Failure} (e : x ≡ signed_of (signed_reading radix bound s)) where
  pub signed_some : {z : ℤ} → x ≡ Ok z → signed radix bound s ≡ Some z
  unfolding signed value_of
  signed_some {z} h = go (signed_reading radix bound s) (sym e ∙ h)
    where
      go : (r : Reading ℤ) → signed_of r ≡ Ok z → value_of r ≡ Some z
      go (read w) q = cc
      go (failed y) q = cc

  pub signed_none : {f : Failure} → x ≡ Err f → signed radix bound s ≡ None
  unfolding signed value_of
  signed_none {f} h = go (signed_reading radix bound s) (sym e ∙ h)
    where
      go : (r : Reading ℤ) → signed_of r ≡ Err f → value_of r ≡ None
      go (read w) q = cc
      go (failed y) q = refl

-- ---- immediates: any other answer than a value is no number
module _ (s : Text) {x : Option (Result ℕ Failure)} (e : x ≡ immediate_of (immediate reading16 s)) where
  pub imm16_some : {v : ℕ} → x ≡ Some (Ok v) → imm16 s ≡ Some v
  unfolding imm16 bind value_of
  imm16_some {v} h = go (immediate reading16 s) (sym e ∙ h)
    where
      go : (o : Option (Reading ℕ)) → immediate_of o ≡ Some (Ok v) → bind o value_of ≡ Some v
      go None q = cc
      go (Some (read w)) q = cc
      go (Some (failed y)) q = cc

  pub imm16_none : ((v : ℕ) → x ≡ Some (Ok v) → ⊥) → imm16 s ≡ None
  unfolding imm16 bind value_of
  imm16_none h = go (immediate reading16 s) (λ v p. h v (e ∙ p))
    where
      go : (o : Option (Reading ℕ)) → ((v : ℕ) → immediate_of o ≡ Some (Ok v) → ⊥) → bind o value_of ≡ None
      go None q = refl
      go (Some (read w)) q = absurd (q w refl)
      go (Some (failed y)) q = refl

module _ (s : Text) {x : Option (Result ℤ Failure)} (e : x ≡ signed_immediate_of (immediate reading8 s)) where
  pub imm8_some : {z : ℤ} → x ≡ Some (Ok z) → imm8 s ≡ Some z
  unfolding imm8 bind value_of
  imm8_some {z} h = go (immediate reading8 s) (sym e ∙ h)
    where
      go : (o : Option (Reading ℤ)) → signed_immediate_of o ≡ Some (Ok z) → bind o value_of ≡ Some z
      go None q = cc
      go (Some (read y)) q = cc
      go (Some (failed y)) q = cc

  pub imm8_none : ((z : ℤ) → x ≡ Some (Ok z) → ⊥) → imm8 s ≡ None
  unfolding imm8 bind value_of
  imm8_none h = go (immediate reading8 s) (λ z p. h z (e ∙ p))
    where
      go : (o : Option (Reading ℤ)) → ((z : ℤ) → signed_immediate_of o ≡ Some (Ok z) → ⊥) → bind o value_of ≡ None
      go None q = refl
      go (Some (read y)) q = absurd (q y refl)
      go (Some (failed y)) q = refl
