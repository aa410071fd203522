-- The digit values are the table's: its 128 entries by computing, the bytes after them by the ranges. Assumes nothing.
use Prim.Native.Nat.{ℕ, ◌≤◌}
use mathlib.Core.Path.{◌≡◌, refl}
use native.Mathlib.Omega.{arith}
use borrow.Author.Tests.{le-leb, lt-leb}
use Rattle.rules.specs.Number.{digit_value}
use Rattle.rules.proofs.Tables.{entry}
use Rattle.promises.specs.Digits.{digit_table, DigitsAreTheTables}

above : (b : ℕ) → 128 ≤ b → digit_value b ≡ 255
unfolding digit_value
above b h = simp (le-leb 48 b (omega arith), lt-leb b 57 (omega arith), le-leb 65 b (omega arith), lt-leb b 70 (omega arith), le-leb 97 b (omega arith), lt-leb b 102 (omega arith))

pub digits_are_the_tables : DigitsAreTheTables
unfolding digit_table digit_value
digits_are_the_tables = record { entries = refl; listed = entry digit_value 128; above = above }
