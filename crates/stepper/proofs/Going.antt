-- A run step by step. Assumes nothing.
use Prim.Native.Nat.{ℕ, suc, ◌+◌, ◌-◌, ◌<◌, ◌≤◌}
use mathlib.Core.Path.{◌≡◌, sym, ◌∙◌}
use mathlib.Core.Bool.{Bool, true, false}
use native.Mathlib.Omega.{arith}
use native.Mathlib.Nat.{add_assoc, add-zero, zero-add}
use Rattle.machine.specs.Machine.{State, Run, judge_of, act_of, run_of, more, ended}
use Rattle.machine.proofs.Running.{run_on, run_spent, run_halts, run_word, run_access}
use Rattle.step.specs.Step.{act_if}
use Rattle.machine.specs.declared.Form.{Form}
use Rattle.machine.specs.declared.Judged.{Judged}
use Rattle.machine.specs.declared.Judged.TheVariants.{Runs, Halts, Unknown, Outside}
use Rattle.machine.specs.declared.End.{End}
use Rattle.machine.specs.declared.End.TheVariants.{OnHalt, OnWord, OnAccess, OnLimit}

-- a run that has made so many steps and stands in a state
pub record Going (limit : ℕ) (first : State) (steps : ℕ) (s : State) : Type 0 where
  pub upto : steps ≤ limit
  pub same : run_of limit first ≡ more steps (run_of (limit - steps) s)

pub begins : (limit : ℕ) (s : State) → Going limit s 0 s
begins limit s = let z : limit - 0 ≡ limit = omega arith in record { upto = omega arith; same = rw (z, zero-add) }

-- the run as it ends, with the steps made
abbrev Over : End → ℕ → State → Run
Over e n s = record { end = e; steps = n; state = s }

module _ {limit steps : ℕ} {first s : State} (g : Going limit first steps s) (n : Judged) (en : n ≡ judge_of s.a s.mem s.pc) where
  ends : (e : End) → run_of (limit - steps) s ≡ ended e s → Over e steps s ≡ run_of limit first
  ends e q = sym (g.same ∙ rw (q, add-zero))

  pub ends_halt : n ≡ Halts → Over OnHalt steps s ≡ run_of limit first
  ends_halt e = ends OnHalt (run_halts (limit - steps) s (sym en ∙ e))

  pub ends_word : n ≡ Unknown → Over OnWord steps s ≡ run_of limit first
  ends_word e = ends OnWord (run_word (limit - steps) s (sym en ∙ e))

  pub ends_access : n ≡ Outside → Over OnAccess steps s ≡ run_of limit first
  ends_access e = ends OnAccess (run_access (limit - steps) s (sym en ∙ e))

  pub ends_limit : (f : Form) → n ≡ Runs f → steps ≡ limit → Over OnLimit steps s ≡ run_of limit first
  ends_limit f e l =
      let z : limit - steps ≡ 0 = omega arith in
      let q : run_of (limit - steps) s ≡ ended OnLimit s = rw z (run_spent s f (sym en ∙ e)) in
      ends OnLimit q

  pub goes_on : (f : Form) (t : State) → n ≡ Runs f → steps < limit → t ≡ act_of f s → Going limit first (steps + 1) t
  goes_on f t e l u =
      let d = g.upto in
      let z : limit - steps ≡ suc (limit - (steps + 1)) = omega arith in
      let q : run_of (limit - steps) s ≡ more 1 (run_of (limit - (steps + 1)) t) = rw (z, run_on (limit - (steps + 1)) s f (sym en ∙ e), u) in
      record { upto = omega arith; same = g.same ∙ rw (q, add_assoc) }

  pub spent : (f : Form) (t : State) (go : Bool) → n ≡ Runs f → limit ≤ steps → go ≡ false → t ≡ act_if go f s → Over OnLimit steps t ≡ run_of limit first
  spent f t go e l w u = let d = g.upto in let q : t ≡ s = rw w at u in rw q (ends_limit f e (omega arith))

  pub made : (f : Form) (t : State) (go : Bool) → n ≡ Runs f → steps < limit → go ≡ true → t ≡ act_if go f s → Going limit first (steps + 1) t
  made f t go e l w u = goes_on f t e l (rw w at u)
