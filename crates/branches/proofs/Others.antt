-- Mnemonics other than the eleven, told by what they name. Assumes nothing.
use Rattle.std.specs.Prelude.{Option, None, Some}
use Rattle.rules.specs.Option.{or_else}
use mathlib.Core.Path.{◌≡◌, refl, sym, ap, ◌∙◌}
use mathlib.Core.Bool.{Bool, true, false, not, false≢true}
use mathlib.Core.List.{List}
use Rattle.rules.specs.Text.{Text}
use Rattle.rules.specs.Encode.{Mnemonic, branches, other_mnemonics, mnemonics, operation_in, is_some}
use Rattle.rules.specs.Encode.{Operation as Ruled}
use Rattle.requests.specs.Branches.{names_with}
use Rattle.requests.proofs.Mnemonics.{in_both}
use Rattle.opcode.specs.Operation.{operation_of}
use Rattle.opcode.specs.declared.mnemonic.Operation.{Operation}
use Rattle.opcode.proofs.Callers.{found}
use Rattle.branches.specs.Branch.{is_other}

-- what is found among the others is no branch, and what is found among the eleven is one
other_found : (m : Text) (o : Ruled) → operation_in other_mnemonics m ≡ Some o → is_other (operation_of (Some o)) ≡ true
unfolding other_mnemonics
other_found m o e = found (λ p. is_other (operation_of (Some p))) other_mnemonics m o refl e

not_true : (b : Bool) → not b ≡ true → b ≡ false
not_true true e = absurd (false≢true e)
not_true false e = refl

branch_found : (m : Text) (o : Ruled) → operation_in branches m ≡ Some o → is_other (operation_of (Some o)) ≡ false
unfolding branches
branch_found m o e = not_true (is_other (operation_of (Some o))) (found (λ p. not (is_other (operation_of (Some p)))) branches m o refl e)

branches_no_other : (m : Text) → is_other (operation_of (operation_in branches m)) ≡ false
branches_no_other m = go (operation_in branches m) refl
  where
    go : (x : Option Ruled) → operation_in branches m ≡ x → is_other (operation_of x) ≡ false
    go None e = refl
    go (Some o) e = branch_found m o e

module _ (m : Text) where
  -- among the stations' mnemonics the others come first
  before : operation_in mnemonics m ≡ or_else (operation_in other_mnemonics m) (operation_in branches m)
  unfolding mnemonics
  before = in_both other_mnemonics branches m

  -- so a mnemonic is one of the others exactly if it names no branch
  pub other_taken : is_other (operation_of (operation_in mnemonics m)) ≡ is_some (operation_in other_mnemonics m)
  unfolding or_else is_some
  other_taken = ap (λ (x : Option Ruled). is_other (operation_of x)) before ∙ go (operation_in other_mnemonics m) refl
    where
      go : (x : Option Ruled) → operation_in other_mnemonics m ≡ x → is_other (operation_of (or_else x (operation_in branches m))) ≡ is_some x
      go None e = branches_no_other m
      go (Some o) e = other_found m o e

  module _ (rs : List Mnemonic) {r : Option Operation} (f : r ≡ operation_of (operation_in mnemonics m)) where
    under : operation_in (names_with rs) m ≡ or_else (operation_in other_mnemonics m) (operation_in rs m)
    unfolding names_with
    under = in_both other_mnemonics rs m

    -- and names the same with other branches
    pub under_other : is_other r ≡ true → r ≡ operation_of (operation_in (names_with rs) m)
    unfolding or_else is_some
    under_other h = go (operation_in other_mnemonics m) refl
      where
        go : (x : Option Ruled) → operation_in other_mnemonics m ≡ x → r ≡ operation_of (operation_in (names_with rs) m)
        go None e =
            let u : is_other (operation_of (operation_in branches m)) ≡ true = rw e at (sym (ap (λ (x : Option Ruled). is_other (operation_of x)) before) ∙ sym (ap is_other f) ∙ h) in
            absurd (false≢true (sym (branches_no_other m) ∙ u))
        go (Some o) e =
            let u : operation_in mnemonics m ≡ Some o = rw e at before in
            let v : operation_in (names_with rs) m ≡ Some o = rw e at under in
            f ∙ ap operation_of (u ∙ sym v)

    -- any other is looked up among those
    pub under_rows : is_other r ≡ false → {x : Option Operation} → x ≡ operation_of (operation_in rs m) → x ≡ operation_of (operation_in (names_with rs) m)
    unfolding or_else is_some
    under_rows h {x} g = go (operation_in other_mnemonics m) refl
      where
        go : (y : Option Ruled) → operation_in other_mnemonics m ≡ y → x ≡ operation_of (operation_in (names_with rs) m)
        go None e = g ∙ ap operation_of (sym (rw e at under))
        go (Some o) e = absurd (false≢true (sym (sym (ap is_other f) ∙ h) ∙ other_taken ∙ rw e))
