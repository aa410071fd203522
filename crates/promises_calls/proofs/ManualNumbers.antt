-- The manual's numbers mean what their bytes say. Assumes nothing.
use Rattle.std.specs.Prelude.{Option, None, Some}
use Rattle.std.proofs.lemmas.Option.{same_Some, none-some}
use Prim.Native.Nat.{ℕ}
use mathlib.Core.Path.{◌≡◌, refl, sym, ap, ◌∙◌}
use lib.IntN.{ℤ}
use Rattle.rules.specs.Text.{Text}
use Rattle.rules.specs.Number.{Reading, read, failed, value_of, reading32}
use Rattle.requests.specs.ManualCall.{number32, signed_digits}
use Rattle.promises.specs.Readings.{Means32}
use Rattle.promises.proofs.Readings.{readings_mean}
use Rattle.promises.proofs.ManualOperands.{signed_number, signed_read}
use Rattle.promises_calls.specs.ManualNumbers.{SaysSigned, says_number, says_none, ManualNumbersMean}

signed_to : (s : Text) (o : Option ℤ) → signed_digits s ≡ o → SaysSigned s o
signed_to s None e = says_none (λ d k. none-some d (sym e ∙ signed_read k))
signed_to s (Some d) e = says_number (signed_number s d e)

signed_from : (s : Text) (o : Option ℤ) → SaysSigned s o → signed_digits s ≡ o
signed_from s (Some d) (says_number k) = signed_read k
signed_from s None (says_none h) = go (signed_digits s) refl
  where
    go : (o : Option ℤ) → signed_digits s ≡ o → signed_digits s ≡ None
    go None e = e
    go (Some d) e = absurd (h d (signed_number s d e))

value_read : {A : Type 0} (r : Reading A) (v : A) → value_of r ≡ Some v → r ≡ read v
unfolding value_of
value_read (read w) v e = ap read (same_Some w v e)
value_read (failed x) v e = absurd (none-some v e)

jump_to : (s : Text) (v : ℕ) → number32 s ≡ Some v → Means32 s (read v)
unfolding number32
jump_to s v e = (readings_mean.of_32_bits s (read v)).0 (value_read (reading32 s) v e)

jump_from : (s : Text) (v : ℕ) → Means32 s (read v) → number32 s ≡ Some v
unfolding number32 value_of
jump_from s v m = rw ((readings_mean.of_32_bits s (read v)).1 m)

pub manual_numbers_mean : ManualNumbersMean
manual_numbers_mean =
    record {
      jumps = λ s v. (jump_to s v, jump_from s v);
      of_displacements = λ s o. (signed_to s o, signed_from s o);
    }
