-- When a recorded call agrees: the call is known, and its text is the recorded one. Assumes nothing.
use Prim.Native.Nat.{ℕ}
use mathlib.Core.Path.{◌≡◌, sym, ◌∙◌}
use mathlib.Core.Bool.{Bool, true, false, false≢true}
use mathlib.Core.Logic.{◌↔◌}
use Rattle.rules.specs.Text.{Text}
use Rattle.calls.specs.Calls.{call_text, is_call, CallAgrees}

-- what does not hold is answered by false
pub refuses : {P : Type 0} → (P → ⊥) → ((false ≡ true) ↔ P)
refuses k = ((λ e. absurd (false≢true e)), (λ p. absurd (k p)))

module _ (call x y : ℕ) (s t : Text) where
  pub unknown : is_call call ≡ false → ((false ≡ true) ↔ CallAgrees call x y s t)
  unknown e = refuses (λ g. false≢true (sym e ∙ g.known))

  pub compared : is_call call ≡ true → (shown : Text) → shown ≡ call_text call x y s → (r : Bool) → ((r ≡ true) ↔ (shown ≡ t)) → ((r ≡ true) ↔ CallAgrees call x y s t)
  compared k shown e r f = ((λ g. record { known = k; answer = sym e ∙ f.0 g }), (λ g. f.1 (e ∙ g.answer)))
