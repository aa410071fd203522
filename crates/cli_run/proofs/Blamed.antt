-- A table that there is, or is not, and what a refusal speaks of. Assumes nothing.
use Rattle.std.proofs.Common.{◌≡◌, ℕ, ◌||◌, eqb, false, refl}
use Rattle.std.specs.Prelude.{Option, None, Some}
use Rattle.cli_error.specs.Answered.{fails}
use Rattle.cli_error.specs.Gives.{Fails}
use Rattle.cli_error.specs.declared.Failure.{Failure}
use Rattle.cli_run.specs.Input.{Named, IsInput, IsTable}
use Rattle.cli_run.specs.Told.{of_input, blamed}
use Rattle.cli_run.specs.declared.input.Input.{Input}

pub input_blamed : (kept : ℕ) (t : Option Named) (b : Named) (n p : ℕ) (e : Failure) → (eqb n 16 || eqb n 17) ≡ false → Fails (fails (of_input kept b n p)) e
    → Fails (fails (blamed kept t b n p)) e
input_blamed kept (Some t) b n p e h f = rw h f
input_blamed kept None b n p e h f = f

pub no_table : (t : Option Named) (i : Option Input) → i ≡ None → IsTable t i → t ≡ None
no_table t i e h = go t (rw e at h)
  where
    go : (t : Option Named) → IsTable t None → t ≡ None
    go None k = refl
    go (Some t) k = absurd k

pub some_table : (t : Option Named) (i : Option Input) (x : Input) → i ≡ Some x → IsTable t i → (n : Named) × (t ≡ Some n) × IsInput 97 n x
some_table t i x e h = go t (rw e at h)
  where
    go : (t : Option Named) → IsTable t (Some x) → (n : Named) × (t ≡ Some n) × IsInput 97 n x
    go None k = absurd k
    go (Some t) k = (t, refl, k)
