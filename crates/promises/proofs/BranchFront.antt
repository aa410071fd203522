-- Branch tables: of a table only its first 97 bytes are read. Assumes nothing.
use Prim.Native.Nat.{ℕ, zero, suc, ◌+◌, ◌*◌, ◌<◌, ◌≤◌}
use mathlib.Core.Path.{◌≡◌, refl}
use mathlib.Core.Bool.{Bool, true, false}
use native.Mathlib.Omega.{arith}
use borrow.Author.Tests.{ltb-true, ltb-false, lt-ltb, le-ltb}
use lib.Dec.{ltb}
use lib.ListN.{length, take, length-take}
use lib.Seq.{get_or-take}
use Rattle.rules.specs.Text.{Text}
use Rattle.requests.specs.Branches.{command_of, byte_of, is_end, is_row, four_of, condition_of, row_of, broken, earlier, misnamed, check_from, checked, rows_from, rows, loaded}
use Rattle.promises.specs.Branches.{FrontOfATable}

-- the first m bytes of a table: a command that ends within them is as in the whole
module _ (t : Text) (m : ℕ) where
  abbrev front : Text
  front = take m t

  length_front : (p : ℕ) → p < m → ltb p (length front) ≡ ltb p (length t)
  length_front p l = go (ltb p (length t)) refl
    where
      go : (x : Bool) → ltb p (length t) ≡ x → ltb p (length front) ≡ x
      go true e = let h : p < length t = ltb-true _ _ e in lt-ltb p (length front) (rw (length-take m t) (omega arith))
      go false e = let h : length t ≤ p = ltb-false _ _ e in le-ltb p (length front) (rw (length-take m t) (omega arith))

  byte_front : (k i : ℕ) → 6 * k + i < m → byte_of front k i ≡ byte_of t k i
  byte_front k i l = rw get_or-take

  command_front : (k : ℕ) → 6 * k < m → command_of front k ≡ command_of t k
  command_front k l = rw get_or-take

  module _ (k : ℕ) where
    end_front : 6 * k < m → is_end front k ≡ is_end t k
    unfolding is_end
    end_front l = rw (length_front (6 * k) l, command_front k (omega arith))

    module _ (l : 6 * k + 5 < m) where
      row_front : is_row front k ≡ is_row t k
      unfolding is_row
      row_front = rw (length_front (6 * k + 5) l, command_front k (omega arith))

      four_front : four_of front k ≡ four_of t k
      unfolding four_of
      four_front = rw (byte_front k 1 (omega arith), byte_front k 2 (omega arith), byte_front k 3 (omega arith), byte_front k 4 (omega arith))

      condition_front : condition_of front k ≡ condition_of t k
      unfolding condition_of
      condition_front = byte_front k 5 l

      broken_front : broken front k ≡ broken t k
      unfolding broken
      broken_front = rw (row_front, condition_front)

      at_front : row_of front k ≡ row_of t k
      unfolding row_of
      at_front = rw (four_front, condition_front)

  earlier_front : (name : Text) (n : ℕ) → 6 * n ≤ m → earlier front name n ≡ earlier t name n
  unfolding earlier
  earlier_front name zero l = refl
  earlier_front name (suc n) l = rw (four_front n (omega arith), earlier_front name n (omega arith))

  misnamed_front : (k : ℕ) → 6 * k + 5 < m → misnamed front k ≡ misnamed t k
  unfolding misnamed
  misnamed_front k l = rw (four_front k l, earlier_front (four_of t k) k (omega arith), byte_front k 1 (omega arith))

  check_front : (left k : ℕ) → 6 * (k + left) < m → check_from left front k ≡ check_from left t k
  unfolding check_from
  check_front zero k l = rw (end_front k (omega arith))
  check_front (suc left) k l =
      rw (end_front k (omega arith), broken_front k (omega arith), misnamed_front k (omega arith), check_front left (suc k) (omega arith))

  rows_front : (left k : ℕ) → 6 * (k + left) ≤ m → rows_from left front k ≡ rows_from left t k
  unfolding rows_from
  rows_front zero k l = refl
  rows_front (suc left) k l = rw (broken_front k (omega arith), at_front k (omega arith), rows_front left (suc k) (omega arith))

pub front_of_a_table : FrontOfATable
unfolding FrontOfATable checked rows loaded
front_of_a_table t = rw (check_front t 97 16 0 (omega arith), rows_front t 97 16 0 (omega arith))
