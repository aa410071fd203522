-- The mnemonics in use: which they are, and that their branches have conditions of 4 bits, whatever the table's bytes. Assumes nothing.
use Rattle.std.specs.Prelude.{Option, None, Some}
use Rattle.rules.specs.Option.{or_else}
use Prim.Native.Nat.{ℕ, zero, suc, ◌<◌}
use mathlib.Core.Path.{◌≡◌, refl, sym, ◌∙◌}
use mathlib.Core.Bool.{Bool, true, false, not, ◌||◌, cond, false≢true}
use mathlib.Core.List.{[], ◌∷◌}
use native.Mathlib.Omega.{arith}
use borrow.Author.Tests.{ltb-true, ltb-false, lt-ltb}
use lib.Dec.{ltb}
use Rattle.rules.specs.Text.{Text}
use Rattle.rules.specs.Encode.{branch, other_mnemonics, operation_in}
use Rattle.rules.specs.Encode.{Operation as Ruled}
use Rattle.requests.specs.Branches.{is_row, condition_of, broken, row_of, rows_from, rows, names_with}
use Rattle.requests.proofs.Mnemonics.{in_both}
use Rattle.opcode.proofs.Callers.{every, found, condition_below16, condition_small}
use Rattle.branches.specs.Branch.{names_in}

-- a row that is not broken
fine_condition : (t : Text) (k : ℕ) → broken t k ≡ false → ltb (condition_of t k) 16 ≡ true
unfolding broken
fine_condition t k e = go (is_row t k) e
  where
    go : (x : Bool) → (not x || ltb 15 (condition_of t k)) ≡ false → ltb (condition_of t k) 16 ≡ true
    go true f = let h = ltb-false 15 (condition_of t k) f in lt-ltb (condition_of t k) 16 (omega arith)
    go false f = absurd (false≢true (sym f))

row_condition : (t : Text) (k : ℕ) → broken t k ≡ false → condition_below16 (row_of t k).operation ≡ true
unfolding row_of
row_condition t k e = fine_condition t k e

rows_conditions : (t : Text) (left k : ℕ) → every condition_below16 (rows_from left t k) ≡ true
unfolding rows_from
rows_conditions t zero k = refl
rows_conditions t (suc left) k = go (broken t k) refl (rows_conditions t left (suc k))
  where
    go : (x : Bool) → broken t k ≡ x → every condition_below16 (rows_from left t (suc k)) ≡ true → every condition_below16 (cond x [] (row_of t k ∷ rows_from left t (suc k))) ≡ true
    go true e ih = refl
    go false e ih = rw (row_condition t k e) ih

-- the condition of a mnemonic in use is below 16: what the encoders ask
pub small_condition : (names : Option Text) (m : Text) (c : ℕ) → operation_in (names_in names) m ≡ Some (branch c) → c < 16
unfolding names_in names_with rows or_else other_mnemonics
small_condition None m c e = condition_small m c e
small_condition (Some t) m c e = go (operation_in other_mnemonics m) refl (sym (in_both other_mnemonics (rows t) m) ∙ e)
  where
    go : (x : Option Ruled) → operation_in other_mnemonics m ≡ x → or_else x (operation_in (rows t) m) ≡ Some (branch c) → c < 16
    go None f g = ltb-true c 16 (found condition_below16 (rows t) m (branch c) (rows_conditions t 16 0) g)
    go (Some o) f g = ltb-true c 16 (found condition_below16 other_mnemonics m (branch c) refl (f ∙ g))
