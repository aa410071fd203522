-- How a run goes on or ends, by the step that is next. Assumes nothing.
use Prim.Native.Nat.{ℕ, zero, suc}
use mathlib.Core.Path.{◌≡◌}
use Rattle.machine.specs.Machine.{State, judge_of, act_of, run_of, more, ended}
use Rattle.machine.specs.declared.Form.{Form}
use Rattle.machine.specs.declared.Judged.TheVariants.{Runs, Halts, Unknown, Outside}
use Rattle.machine.specs.declared.End.TheVariants.{OnHalt, OnWord, OnAccess, OnLimit}

pub run_on : (k : ℕ) (s : State) (f : Form) → judge_of s.a s.mem s.pc ≡ Runs f → run_of (suc k) s ≡ more 1 (run_of k (act_of f s))
unfolding run_of
run_on k s f e = rw (e, run_of)

pub run_spent : (s : State) (f : Form) → judge_of s.a s.mem s.pc ≡ Runs f → run_of 0 s ≡ ended OnLimit s
unfolding run_of
run_spent s f e = rw (e, run_of)

pub run_halts : (k : ℕ) (s : State) → judge_of s.a s.mem s.pc ≡ Halts → run_of k s ≡ ended OnHalt s
unfolding run_of
run_halts zero s e = rw (e, run_of)
run_halts (suc k) s e = rw (e, run_of)

pub run_word : (k : ℕ) (s : State) → judge_of s.a s.mem s.pc ≡ Unknown → run_of k s ≡ ended OnWord s
unfolding run_of
run_word zero s e = rw (e, run_of)
run_word (suc k) s e = rw (e, run_of)

pub run_access : (k : ℕ) (s : State) → judge_of s.a s.mem s.pc ≡ Outside → run_of k s ≡ ended OnAccess s
unfolding run_of
run_access zero s e = rw (e, run_of)
run_access (suc k) s e = rw (e, run_of)
