-- What the system says is in what is said, whatever that is. Assumes nothing.
use Rattle.std.proofs.Common.{◌≡◌, [], refl}
use Rattle.std.specs.Prelude.{Result, Ok, Err, IfOk}
use Rattle.rules.specs.Text.{Text}

-- r, the text that was made; said, what is known of any text that it is
pub told : {T E : Type 0} (items : T → Text) (of : Text → Text) (Q : Text → Type 0) (r : Result T E) → IfOk r (λ t. (shown : Text) × (items t ≡ of shown)) → ((s : Text) → IfOk r (λ t. items t ≡ s) → Q s) → (shown : Text) × Q (of shown)
told items of Q (Ok t) h said = (h.0, said (of h.0) h.1)
told items of Q (Err e) h said = ([], said (of []) tt)
