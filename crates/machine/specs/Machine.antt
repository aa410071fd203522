-- The bench's machine: its state, what each form does, whether the next step may be made, and a run with its limit. Assumes nothing.
use Rattle.std.specs.Prelude.{ℕ, zero, suc, ◌+◌, ◌*◌, ◌/◌, ◌%◌, ◌^◌, Bool, true, cond, ◌&&◌, List, leb, eqb, get_or, set, pos, ◌+ℤ◌, ◌*ℤ◌}
use Rattle.std.proofs.Math.IntN.{sub_ℕ}
use Rattle.rules.specs.Number.{modulo}
use Rattle.manual.specs.Manual.{sign_by}
use Rattle.machine.specs.Flags.{moved, added, compared, subtracted, shifted, holds}
use Rattle.machine.specs.Decode.{decode_of}
use Rattle.machine.specs.declared.Flags.{Flags}
use Rattle.machine.specs.declared.Status.{Status}
use Rattle.machine.specs.declared.Form.{Form}
use Rattle.machine.specs.declared.Form.TheVariants.{Nop, Moveq, MoveWord, Load, Store, Add, Sub, Cmp, Muls, MulsImmediate, Tst, Subq, Asl, Branch}
use Rattle.machine.specs.declared.Decoded.{Decoded}
use Rattle.machine.specs.declared.Decoded.TheVariants.{Is, Halt, Other}
use Rattle.machine.specs.declared.Judged.{Judged}
use Rattle.machine.specs.declared.Judged.TheVariants.{Runs, Halts, Unknown, Outside}
use Rattle.machine.specs.declared.End.{End}
use Rattle.machine.specs.declared.End.TheVariants.{OnHalt, OnWord, OnAccess, OnLimit}
use Rattle.machine.specs.declared.Ran.{Ran}

-- "D0 to D7, A0 to A7, the five condition flags and 16,384 bytes of memory", and the program counter, modulo 2^32
pub record State : Type 0 where
  pub d : List ℕ
  pub a : List ℕ
  pub flags : Flags
  pub pc : ℕ
  pub mem : List ℕ

-- the state of lent registers and memory, and of what is handed around by value
abbrev pub state_of : List ℕ → List ℕ → Status → List ℕ → State
state_of d a s mem = record { d = d; a = a; flags = s.flags; pc = s.pc; mem = mem }

-- bytes, the high one first
abbrev pub word_at : List ℕ → ℕ → ℕ
word_at mem p = get_or mem p 0 * 256 + get_or mem (p + 1) 0

abbrev pub long_at : List ℕ → ℕ → ℕ
long_at mem p = word_at mem p * 65536 + word_at mem (p + 2)

abbrev pub with_long : List ℕ → ℕ → ℕ → List ℕ
with_long mem p v = set (set (set (set mem p (v / 16777216)) (p + 1) (v / 65536 % 256)) (p + 2) (v / 256 % 256)) (p + 3) (v % 256)

-- a data register, its low word, and the registers with another low word in one
abbrev pub long : State → ℕ → ℕ
long s n = get_or s.d n 0

abbrev pub word : State → ℕ → ℕ
word s n = get_or s.d n 0 % 65536

abbrev pub with_word : State → ℕ → ℕ → List ℕ
with_word s m v = set s.d m (get_or s.d m 0 / 65536 * 65536 + v)

-- the state with other data registers and flags, so many bytes further
abbrev pub went : State → List ℕ → Flags → ℕ → State
went s d f by = record { d = d; a = s.a; flags = f; pc = (s.pc + by) % 2 ^ 32; mem = s.mem }

-- a long put into a data register, by a form of so many bytes
abbrev pub put : State → ℕ → ℕ → ℕ → State
put s m v by = went s (set s.d m v) (moved s.flags (2 ^ 31) v) by

-- the product of two words as signed numbers, in 32 bits
abbrev pub product : ℕ → ℕ → ℕ
product a b = modulo (2 ^ 32) (sign_by 32768 a *ℤ sign_by 32768 b)

-- "Each step does what the manual says": the state after each form
unfoldable pub act_of : Form → State → State
act_of Nop s = went s s.d s.flags 2
act_of (Moveq b m) s = put s m (modulo (2 ^ 32) (sign_by 128 b)) 2
act_of (MoveWord n m) s = went s (with_word s m (word s n)) (moved s.flags 32768 (word s n)) 2
act_of (Load n m) s = put s m (long_at s.mem (get_or s.a n 0)) 2
act_of (Store n m) s =
    record {
      d = s.d;
      a = s.a;
      flags = moved s.flags (2 ^ 31) (long s n);
      pc = (s.pc + 2) % 2 ^ 32;
      mem = with_long s.mem (get_or s.a m 0) (long s n);
    }
act_of (Add n m) s = went s (with_word s m ((word s m + word s n) % 65536)) (added 32768 (word s n) (word s m)) 2
act_of (Sub n m) s = went s (with_word s m (modulo 65536 (sub_ℕ (word s m) (word s n)))) (subtracted 32768 (word s n) (word s m)) 2
act_of (Cmp n m) s = went s s.d (compared s.flags.x 32768 (word s n) (word s m)) 2
act_of (Muls n m) s = put s m (product (word s n) (word s m)) 2
act_of (MulsImmediate m) s = put s m (product (word_at s.mem (s.pc + 2)) (word s m)) 4
act_of (Tst n) s = went s s.d (moved s.flags (2 ^ 31) (long s n)) 2
act_of (Subq k n) s = went s (set s.d n (modulo (2 ^ 32) (sub_ℕ (long s n) k))) (subtracted (2 ^ 31) k (long s n)) 2
act_of (Asl k n) s = went s (set s.d n (long s n * 2 ^ k % 2 ^ 32)) (shifted k (long s n)) 2
act_of (Branch k b) s =
    record {
      d = s.d;
      a = s.a;
      flags = s.flags;
      pc = modulo (2 ^ 32) (pos (s.pc + 2) +ℤ cond (holds k s.flags) (sign_by 128 b) (pos 0));
      mem = s.mem;
    }

-- an access of so many bytes, 2 or 4: "an odd or outside access" is one that is not all within the memory
abbrev pub reached : ℕ → ℕ → Bool
reached p size = eqb (p % 2) 0 && leb (p + size) 16384

-- the access that a form makes besides its first word
unfoldable pub reaches : Form → List ℕ → ℕ → Bool
reaches Nop a pc = true
reaches (Moveq b m) a pc = true
reaches (MoveWord n m) a pc = true
reaches (Load n m) a pc = reached (get_or a n 0) 4
reaches (Store n m) a pc = reached (get_or a m 0) 4
reaches (Add n m) a pc = true
reaches (Sub n m) a pc = true
reaches (Cmp n m) a pc = true
reaches (Muls n m) a pc = true
reaches (MulsImmediate m) a pc = reached (pc + 2) 2
reaches (Tst n) a pc = true
reaches (Subq k n) a pc = true
reaches (Asl k n) a pc = true
reaches (Branch k b) a pc = true

-- the step that is next: "A fetch is an access", then the word, then what its form reaches
unfoldable pub judged_as : Decoded → List ℕ → ℕ → Judged
judged_as (Is f) a pc = cond (reaches f a pc) (Runs f) Outside
judged_as Halt a pc = Halts
judged_as Other a pc = Unknown

unfoldable pub judge_of : List ℕ → List ℕ → ℕ → Judged
judge_of a mem pc = cond (reached pc 2) (judged_as (decode_of (word_at mem pc)) a pc) Outside

-- a run: why it ended, the steps made, and the state
pub record Run : Type 0 where
  pub end : End
  pub steps : ℕ
  pub state : State

-- of lent registers and memory, and of what a run hands back
abbrev pub ran_of : List ℕ → List ℕ → Ran → List ℕ → Run
ran_of d a r mem = record { end = r.end; steps = r.steps; state = state_of d a r.status mem }

-- "a step that stops is not counted and changes nothing"
abbrev pub ended : End → State → Run
ended e s = record { end = e; steps = 0; state = s }

abbrev pub more : ℕ → Run → Run
more k r = record { end = r.end; steps = k + r.steps; state = r.state }

-- at most so many steps. "It stops on $4E72, on a word outside those forms, on an odd or outside access, or when the limit is
-- spent, and says which; the first three come before the last"
unfoldable pub run_of : ℕ → State → Run
run_of zero s =
    elim (judge_of s.a s.mem s.pc) [ Runs f ↦ ended OnLimit s | Halts ↦ ended OnHalt s | Unknown ↦ ended OnWord s | Outside ↦ ended OnAccess s ]
run_of (suc k) s =
    elim (judge_of s.a s.mem s.pc) [ Runs f ↦ more 1 (run_of k (act_of f s)) | Halts ↦ ended OnHalt s | Unknown ↦ ended OnWord s | Outside ↦ ended OnAccess s ]
