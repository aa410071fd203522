-- A run as C gets it: the answer as numbers, and registers and memory afterwards. Assumes nothing.
use Rattle.std.specs.Prelude.{ℕ, ◌+◌, ◌≡◌, cond, List}
use Rattle.rules.specs.Answer.{Answer, accepted, refused}
use Rattle.machine.specs.Machine.{Run}
use Rattle.machine.specs.Bench.{registers_after, memory_after}
use Rattle.machine.specs.declared.End.{End}
use Rattle.machine.specs.declared.End.TheVariants.{OnHalt, OnWord, OnAccess, OnLimit}
use Rattle.machine.specs.declared.Flags.{Flags}

-- why a run ended
abbrev pub end_number : End → ℕ
end_number OnHalt = 0
end_number OnWord = 1
end_number OnAccess = 2
end_number OnLimit = 3

-- X N Z V C in bits 4 to 0, as in the manual's condition code register
abbrev pub flags_number : Flags → ℕ
flags_number f = cond f.x 16 0 + cond f.n 8 0 + cond f.z 4 0 + cond f.v 2 0 + cond f.c 1 0

-- what it returns, and what it leaves in the five numbers that the caller lends: end, steps, program counter, flags, place
pub data Numbers : Answer Run → ℕ → ℕ → ℕ → ℕ → ℕ → ℕ → Type 0 where
  of_run : (r : Run) → Numbers (accepted r) 0 (end_number r.end) r.steps r.state.pc (flags_number r.state.flags) 0
  not_run : (n p : ℕ) → Numbers (refused n p) n 255 0 0 0 p

-- the contract, of data registers and memory too, which were d and mem
pub record Benches (told : Answer Run) (n end steps pc flags place : ℕ) (d mem d' mem' : List ℕ) : Type 0 where
  pub numbers : Numbers told n end steps pc flags place
  pub registers : d' ≡ registers_after told d
  pub memory : mem' ≡ memory_after told mem
