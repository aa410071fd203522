-- A call under a table, by what loading answered. For callers. Assumes nothing.
use Rattle.std.specs.Prelude.{Some, Result, Ok, Err}
use Prim.Native.Nat.{ℕ}
use mathlib.Core.Path.{◌≡◌, sym}
use mathlib.Core.List.{List}
use Rattle.rules.specs.Text.{Text}
use Rattle.rules.specs.Encode.{Mnemonic}
use Rattle.rules.specs.Answer.{and_then}
use Rattle.rules.specs.Answer.{Answer as Ruled, refused}
use Rattle.requests.specs.Branches.{checked, loaded, under}
use Rattle.answer.specs.Refusal.{answer_of, number_of, place_of}
use Rattle.answer.specs.declared.Refusal.{Refusal}
use Rattle.branches.specs.Branch.{names_in}

module _ {A : Type 0} (call : List Mnemonic → Ruled A) (t : Text) {r : Result ℕ Refusal} (e : answer_of r ≡ checked t) where
  pub under_refused : (x : Refusal) → r ≡ Err x → under t call ≡ refused (number_of x) (place_of x)
  unfolding under loaded and_then
  under_refused x f = rw (sym e, f)

  pub under_accepted : (n : ℕ) → r ≡ Ok n → under t call ≡ call (names_in (Some t))
  unfolding under loaded and_then names_in
  under_accepted n f = rw (sym e, f)
