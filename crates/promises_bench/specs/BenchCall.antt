-- A call of the bench: which it refuses and as what, what an accepted one answers, and what it leaves in the registers and the memory that
-- are lent. Assumes nothing.
use Rattle.std.specs.Prelude.{ℕ, ◌+◌, ◌/◌, ◌%◌, ◌≤◌, ◌<◌, ◌≡◌, ◌↔◌, false, List, [], ◌∷◌, length, get_or, replicate}
use Rattle.rules.specs.Answer.{accepted, refused}
use Rattle.machine.specs.Machine.{State, Run}
use Rattle.machine.specs.Bench.{fill_of, bench_of, registers_after, memory_after}
use Rattle.promises.specs.Stages.{Stage, all, RefusesExactly}
use Rattle.promises.specs.Refusals.{Lowest}
use Rattle.promises_bench.specs.BenchRuns.{IsRun}

-- the address of each of the first n entries is even and has room for a word
abbrev pub Placed : ℕ → List ℕ → Type 0
Placed n xs = (i : ℕ) → i < n → (get_or xs i 0 % 2 ≡ 0) × (get_or xs i 0 ≤ 16382)

-- entry i is the last of the first n with the address p
pub record LastAt (n : ℕ) (xs : List ℕ) (p i : ℕ) : Type 0 where
  pub inside : i < n
  pub there : get_or xs i 0 ≡ p
  pub later : (j : ℕ) → i < j → j < n → ¬ (get_or xs j 0 ≡ p)

-- the word of none of the first n entries has its high or its low byte at q
abbrev pub NoneOn : ℕ → List ℕ → ℕ → Type 0
NoneOn n xs q = (i : ℕ) → i < n → ¬ (get_or xs i 0 ≡ q) × ¬ (get_or xs i 0 + 1 ≡ q)

-- "16,384 bytes of memory filled from a list, later entries over earlier. .. unfilled bytes start at 0": at each entry's address the high
-- byte of the last word with that address, after it the low one, and 0 in every other byte
pub record Filled (n : ℕ) (xs ws mem : List ℕ) : Type 0 where
  pub size : length mem ≡ 16384
  pub high : (p i : ℕ) → LastAt n xs p i → get_or mem p 0 ≡ get_or ws i 0 / 256
  pub low : (p i : ℕ) → LastAt n xs p i → get_or mem (p + 1) 0 ≡ get_or ws i 0 % 256
  pub other : (q : ℕ) → NoneOn n xs q → get_or mem q 0 ≡ 0

unfoldable pub FillsExactly : Type 0
FillsExactly = (n : ℕ) (xs ws mem : List ℕ) → Placed n xs → (fill_of n xs ws (replicate 16384 0) ≡ mem) ↔ Filled n xs ws mem

-- one of the two slices is shorter than n
pub data ListShorter (xs ws : List ℕ) (n : ℕ) : Type 0 where
  short_addresses : length xs < n → ListShorter xs ws n
  short_words : length ws < n → ListShorter xs ws n

-- "odd or above 16,382"
pub data Misplaced (p : ℕ) : Type 0 where
  odd : ¬ (p % 2 ≡ 0) → Misplaced p
  above : 16382 < p → Misplaced p

pub data BenchCondition (xs ws : List ℕ) (count : ℕ) : ℕ → ℕ → Type 0 where
  -- "9 count over any slice's length; place the count"
  count_over : ListShorter xs ws count → BenchCondition xs ws count 9 count
  -- "19: a list address that is odd or above 16,382; place the lowest such index"
  misplaced_at : {p : ℕ} → Lowest (λ i. Misplaced (get_or xs i 0)) count p → BenchCondition xs ws count 19 p

-- "after 9, before any step"
abbrev pub benching : List Stage
benching = all 9 ∷ all 19 ∷ []

unfoldable pub BenchRefusesExactly : Type 0
BenchRefusesExactly =
    (xs ws : List ℕ) (count : ℕ) (a : List ℕ) (pc limit : ℕ) → RefusesExactly benching (BenchCondition xs ws count) (bench_of count xs ws a pc limit)

-- the state before the first step: "D0 to D7, flags and unfilled bytes start at 0; .. the caller names" A0 to A7 "and the start address"
pub record IsStart (xs ws : List ℕ) (count : ℕ) (a : List ℕ) (pc : ℕ) (s : State) : Type 0 where
  pub d_registers : s.d ≡ 0 ∷ 0 ∷ 0 ∷ 0 ∷ 0 ∷ 0 ∷ 0 ∷ 0 ∷ []
  pub a_registers : s.a ≡ a
  pub x : s.flags.x ≡ false
  pub n : s.flags.n ≡ false
  pub z : s.flags.z ≡ false
  pub v : s.flags.v ≡ false
  pub c : s.flags.c ≡ false
  pub counter : s.pc ≡ pc
  pub memory : Filled count xs ws s.mem

-- an accepted call with the run r: no condition of a refusal holds, and r is the run from that state
pub record IsBench (xs ws : List ℕ) (count : ℕ) (a : List ℕ) (pc limit : ℕ) (r : Run) : Type 0 where
  pub none : (m q : ℕ) → ¬ BenchCondition xs ws count m q
  pub start : State
  pub starts : IsStart xs ws count a pc start
  pub runs : IsRun limit start r

unfoldable pub BenchAcceptsExactly : Type 0
BenchAcceptsExactly =
    (xs ws : List ℕ) (count : ℕ) (a : List ℕ) (pc limit : ℕ) (r : Run) → (bench_of count xs ws a pc limit ≡ accepted r) ↔ IsBench xs ws count a pc limit r

-- the data registers d and the memory mem that a call is lent stay if it is refused
unfoldable pub RefusedBenchChangesNothing : Type 0
RefusedBenchChangesNothing =
    (xs ws : List ℕ) (count : ℕ) (a : List ℕ) (pc limit n p : ℕ) (d mem : List ℕ) → bench_of count xs ws a pc limit ≡ refused n p
    → (registers_after (bench_of count xs ws a pc limit) d ≡ d) × (memory_after (bench_of count xs ws a pc limit) mem ≡ mem)

-- and are the run's last ones if it is accepted, whose address registers are still those that the caller named
pub record BenchLeaves (xs ws : List ℕ) (count : ℕ) (a : List ℕ) (pc limit : ℕ) (d mem : List ℕ) (r : Run) : Type 0 where
  pub registers : registers_after (bench_of count xs ws a pc limit) d ≡ r.state.d
  pub memory : memory_after (bench_of count xs ws a pc limit) mem ≡ r.state.mem
  pub a_registers : r.state.a ≡ a

unfoldable pub AcceptedBenchLeavesItsRun : Type 0
AcceptedBenchLeavesItsRun =
    (xs ws : List ℕ) (count : ℕ) (a : List ℕ) (pc limit : ℕ) (d mem : List ℕ) (r : Run) → bench_of count xs ws a pc limit ≡ accepted r
    → BenchLeaves xs ws count a pc limit d mem r
