-- Displacements: the first that fits, and those that an operand gives. Assumes nothing.
use Rattle.std.specs.Prelude.{Option, None, Some, Result, Ok, Err}
use Rattle.std.specs.Result.{is_ok, result_or}
use Prim.Native.Nat.{ℕ, ◌+◌}
use mathlib.Core.Path.{◌≡◌, refl, ◌∙◌}
use mathlib.Core.Bool.{Bool, true, false}
use mathlib.Core.List.{List, [], ◌∷◌}
use lib.IntN.{ℤ, sub_ℕ}
use Rattle.rules.specs.Text.{Text}
use Rattle.rules.specs.Label.{Table, find}
use Rattle.manual.specs.Manual.{sixteen_bits}
use Rattle.requests.specs.ManualCall.{first_that, listed, signed_digits, displacements}
use Rattle.encode_manual.specs.Displacement.{reached, displacement_in}
use Rattle.encode_manual.specs.declared.displacement.Unfit.{Unfit}
use Rattle.encode_manual.specs.declared.displacement.Unfit.TheVariants.{Outside}

-- ---- the first that fits
module _ (f : ℤ → Bool) where
  first_here : (d : ℤ) (ds : List ℤ) → f d ≡ true → first_that f (d ∷ ds) ≡ Some d
  unfolding first_that
  first_here d ds e = rw (first_that, e)

  first_later : (d : ℤ) (ds : List ℤ) → f d ≡ false → first_that f (d ∷ ds) ≡ first_that f ds
  unfolding first_that
  first_later d ds e = rw (first_that, e)

  -- a displacement by itself
  pub near : (d : ℤ) → f d ≡ true → Ok (sixteen_bits d) ≡ displacement_in f (d ∷ [])
  near d e = rw (first_here d [] e)

  pub far : (d : ℤ) → f d ≡ false → Err Outside ≡ displacement_in f (d ∷ [])
  unfolding first_that
  far d e = rw (first_later d [] e)

  -- the label's, then what comes after it
  module _ (d : ℤ) (ds : List ℤ) {x : Result ℕ Unfit} (e : x ≡ displacement_in f (d ∷ [])) where
    pub by_label : is_ok x ≡ true → x ≡ displacement_in f (d ∷ ds)
    unfolding first_that
    by_label h = go (f d) refl
      where
        go : (y : Bool) → f d ≡ y → x ≡ displacement_in f (d ∷ ds)
        go true q = e ∙ rw (first_here d [] q, first_here d ds q)
        go false q = let k : x ≡ Err Outside = e ∙ rw (first_later d [] q) in let j = rw k at h in cc

    pub past_label : {y : Result ℕ Unfit} → is_ok x ≡ false → y ≡ displacement_in f ds → result_or y (Err Outside) ≡ displacement_in f (d ∷ ds)
    unfolding first_that
    past_label {y} h p = go (f d) refl
      where
        after_it : (es : List ℤ) → result_or (displacement_in f es) (Err Outside) ≡ reached (first_that f es)
        after_it [] = refl
        after_it (c ∷ es) = each (first_that f (c ∷ es))
          where
            each : (o : Option ℤ) → result_or (reached o) (Err Outside) ≡ reached o
            each None = refl
            each (Some z) = refl

        go : (b : Bool) → f d ≡ b → result_or y (Err Outside) ≡ displacement_in f (d ∷ ds)
        go true q = let k : x ≡ Ok (sixteen_bits d) = e ∙ rw (first_here d [] q) in let j = rw k at h in cc
        go false q = rw (first_later d ds q, p) (after_it ds)

-- ---- the displacements of an operand, by whether it is a recorded label
module _ (ls : Table) (a : ℕ) (s : Text) where
  pub of_no_label : find s ls ≡ None → displacements ls a s ≡ listed (signed_digits s)
  unfolding displacements listed
  of_no_label e = rw e

  pub of_label : {x : ℕ} → find s ls ≡ Some x → displacements ls a s ≡ sub_ℕ x (a + 2) ∷ listed (signed_digits s)
  unfolding displacements listed
  of_label e = rw e
