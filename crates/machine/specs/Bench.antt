-- The bench's call: "16,384 bytes of memory filled from a list, later entries over earlier", the state that a run starts from, refusals
-- 9 and 19, and what the call leaves. Assumes nothing.
use Rattle.std.specs.Prelude.{ℕ, zero, suc, ◌+◌, ◌/◌, ◌%◌, Bool, false, not, ◌||◌, List, ltb, eqb, length, get_or, set, replicate}
use Rattle.rules.specs.Answer.{Answer, accepted, refused, refuse_if, refuse_at}
use Rattle.rules.specs.Relocate.{first_index}
use Rattle.machine.specs.Machine.{State, Run, run_of}
use Rattle.machine.specs.declared.Flags.{Flags}
use Rattle.machine.specs.declared.Status.{Status}

-- a word in memory, the high byte first
abbrev pub placed : List ℕ → ℕ → ℕ → List ℕ
placed mem p w = set (set mem p (w / 256)) (p + 1) (w % 256)

-- the first n words of a list in memory, each at its address
unfoldable pub fill_of : ℕ → List ℕ → List ℕ → List ℕ → List ℕ
fill_of zero xs ws mem = mem
fill_of (suc n) xs ws mem = placed (fill_of n xs ws mem) (get_or xs n 0) (get_or ws n 0)

-- "D0 to D7, flags and unfilled bytes start at 0; .. the caller names" A0 to A7 "and the start address"
abbrev pub clear : Flags
clear = record { x = false; n = false; z = false; v = false; c = false }

abbrev pub status_at : ℕ → Status
status_at pc = record { flags = clear; pc = pc }

unfoldable pub state_at : ℕ → List ℕ → List ℕ → List ℕ → ℕ → State
state_at n xs ws a pc = record { d = replicate 8 0; a = a; flags = clear; pc = pc; mem = fill_of n xs ws (replicate 16384 0) }

-- "9 count over any slice's length": of the two that are lent, since marks are not looked at
unfoldable pub short_list : List ℕ → List ℕ → ℕ → Bool
short_list xs ws n = ltb (length xs) n || ltb (length ws) n

-- "19: a list address that is odd or above 16,382"
unfoldable pub misplaced : ℕ → Bool
misplaced p = not (eqb (p % 2) 0) || ltb 16382 p

-- "place the lowest such index; after 9, before any step"
unfoldable pub bench_answer : {A : Type 0} → ℕ → List ℕ → List ℕ → A → Answer A
bench_answer n xs ws r = refuse_if (short_list xs ws n) 9 n (refuse_at (first_index misplaced 0 n xs) 19 (accepted r))

-- the call's answer, a run or a refusal
unfoldable pub bench_of : ℕ → List ℕ → List ℕ → List ℕ → ℕ → ℕ → Answer Run
bench_of n xs ws a pc limit = bench_answer n xs ws (run_of limit (state_at n xs ws a pc))

-- data registers and memory after the call: as the run leaves them; a refused call leaves them as they were
unfoldable pub registers_after : Answer Run → List ℕ → List ℕ
registers_after (accepted r) d = r.state.d
registers_after (refused n p) d = d

unfoldable pub memory_after : Answer Run → List ℕ → List ℕ
memory_after (accepted r) mem = r.state.mem
memory_after (refused n p) mem = mem
