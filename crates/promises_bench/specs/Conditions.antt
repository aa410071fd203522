-- What the sixteen conditions say after a compare: of the two words as unsigned or as signed numbers, or of their difference. Assumes nothing.
use Rattle.std.specs.Prelude.{ℕ, ◌+◌, ◌%◌, ◌^◌, ◌<◌, ◌≤◌, ◌≡◌, ◌↔◌, true, pos, ◌+ℤ◌, ◌-ℤ◌, ◌≤ℤ◌, ◌<ℤ◌}
use Rattle.machine.specs.Flags.{holds}
use Rattle.machine.specs.Machine.{State, act_of}
use Rattle.machine.specs.declared.Form.TheVariants.{Cmp, Branch}
use Rattle.promises_bench.specs.Steps.{signed_as, low_word, Dn, PlainState, HasBranch, Reduced, InRange}

-- what a condition, by its four bits, says of a destination word b and a source word a: T always, F (0b0001) never, HI, LS, CC and CS by
-- unsigned numbers, NE and EQ by the words, VC and VS by the exact signed difference, PL and MI by the difference r modulo 65,536, read as
-- a signed word, GE, LT, GT and LE by signed numbers
pub data Compares (a b : ℕ) : ℕ → Type 0 where
  always : Compares a b 0b0000
  higher : a < b → Compares a b 0b0010
  lower_or_same : b ≤ a → Compares a b 0b0011
  carry_clear : a ≤ b → Compares a b 0b0100
  carry_set : b < a → Compares a b 0b0101
  not_equal : ¬ (b ≡ a) → Compares a b 0b0110
  equal : b ≡ a → Compares a b 0b0111
  overflow_clear : InRange 16 (signed_as 16 b -ℤ signed_as 16 a) → Compares a b 0b1000
  overflow_set : ¬ InRange 16 (signed_as 16 b -ℤ signed_as 16 a) → Compares a b 0b1001
  plus_sign : (r : ℕ) → Reduced (2 ^ 16) (pos b -ℤ pos a) r → pos 0 ≤ℤ signed_as 16 r → Compares a b 0b1010
  minus_sign : (r : ℕ) → Reduced (2 ^ 16) (pos b -ℤ pos a) r → signed_as 16 r <ℤ pos 0 → Compares a b 0b1011
  greater_or_equal : signed_as 16 a ≤ℤ signed_as 16 b → Compares a b 0b1100
  less_than : signed_as 16 b <ℤ signed_as 16 a → Compares a b 0b1101
  greater_than : signed_as 16 a <ℤ signed_as 16 b → Compares a b 0b1110
  less_or_equal : signed_as 16 b ≤ℤ signed_as 16 a → Compares a b 0b1111

-- after CMP.W Dn,Dm a condition, any of the sixteen, holds exactly if what it says of Dm's low word and Dn's does
unfoldable pub ConditionsCompare : Type 0
ConditionsCompare =
    (s : State) (n m k : ℕ) → PlainState s → n < 8 → m < 8 → k < 16
    → (holds k (act_of (Cmp n m) s).flags ≡ true) ↔ Compares (low_word (Dn s n)) (low_word (Dn s m)) k

-- so CMP.W Dn,Dm and a branch after it: it goes to its target if the comparison holds, and to the next instruction if not
pub record ComparedBranch (n m k b : ℕ) (s t : State) : Type 0 where
  pub taken : Compares (low_word (Dn s n)) (low_word (Dn s m)) k → Reduced (2 ^ 32) (pos (s.pc + 4) +ℤ signed_as 8 b) t.pc
  pub passed : ¬ Compares (low_word (Dn s n)) (low_word (Dn s m)) k → t.pc ≡ (s.pc + 4) % 2 ^ 32

unfoldable pub BranchesCompare : Type 0
BranchesCompare =
    (s : State) (n m k b : ℕ) → PlainState s → n < 8 → m < 8 → HasBranch k → 0 < b → b < 2 ^ 8
    → ComparedBranch n m k b s (act_of (Branch k b) (act_of (Cmp n m) s))
