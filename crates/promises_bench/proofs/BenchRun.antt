-- What `run_of` computes is a run, and there is but one; and none changes A0 to A7. Assumes nothing.
use Prim.Native.Nat.{ℕ, zero, suc, ◌+◌, ◌≤◌}
use mathlib.Core.Path.{◌≡◌, refl, sym, ◌∙◌, ap}
use native.Mathlib.Omega.{arith}
use Rattle.machine.specs.Machine.{State, Run, run_of, act_of, ended}
use Rattle.machine.proofs.Running.{run_on, run_spent, run_halts, run_word, run_access}
use Rattle.machine.specs.declared.Form.{Form}
use Rattle.machine.specs.declared.Form.TheVariants.{Nop, Moveq, MoveWord, Load, Store, Add, Sub, Cmp, Muls, MulsImmediate, Tst, Subq, Asl, Branch}
use Rattle.machine.specs.declared.Judged.{Judged}
use Rattle.machine.specs.declared.Judged.TheVariants.{Runs, Halts, Unknown, Outside}
use Rattle.machine.specs.declared.End.{End}
use Rattle.machine.specs.declared.End.TheVariants.{OnHalt, OnWord, OnAccess, OnLimit}
use Rattle.promises_bench.specs.BenchRuns.{next_step, Leads, stay, step, Ends, on_halt, on_word, on_access, on_limit, IsRun, RunsExactly, NoFormChangesA}
use Rattle.promises_bench.proofs.BenchJudge.{judges_exactly}

-- a run that ends at once
at_once : (limit : ℕ) (s : State) (e : End) → Ends limit 0 s e → IsRun limit s (ended e s)
at_once limit s e h = record { within = omega arith; made = stay; ends = h }

-- one more step before a run
further : (limit n : ℕ) (t : State) (e : End) → Ends limit n t e → Ends (suc limit) (suc n) t e
further limit n t OnHalt (on_halt h) = on_halt h
further limit n t OnWord (on_word h) = on_word h
further limit n t OnAccess (on_access h) = on_access h
further limit n t OnLimit (on_limit f h e) = on_limit f h (ap suc e)

-- what is computed is a run
is_run : (limit : ℕ) (s : State) → IsRun limit s (run_of limit s)
is_run zero s = go (next_step s) refl
  where
    go : (j : Judged) → next_step s ≡ j → IsRun 0 s (run_of 0 s)
    go (Runs f) e = rw (run_spent s f e) (at_once 0 s OnLimit (on_limit f ((judges_exactly.runs s f).0 e) refl))
    go Halts e = rw (run_halts 0 s e) (at_once 0 s OnHalt (on_halt ((judges_exactly.halts s).0 e)))
    go Unknown e = rw (run_word 0 s e) (at_once 0 s OnWord (on_word ((judges_exactly.unknown s).0 e)))
    go Outside e = rw (run_access 0 s e) (at_once 0 s OnAccess (on_access ((judges_exactly.outside s).0 e)))
is_run (suc k) s = go (next_step s) refl (λ t. is_run k t)
  where
    go : (j : Judged) → next_step s ≡ j → ((t : State) → IsRun k t (run_of k t)) → IsRun (suc k) s (run_of (suc k) s)
    go (Runs f) e ih =
        let r = ih (act_of f s) in
        let w = r.within in
        let n : 1 + (run_of k (act_of f s)).steps ≡ suc (run_of k (act_of f s)).steps = omega arith in
        rw (run_on k s f e, n)
        (record { within = omega arith; made = step f ((judges_exactly.runs s f).0 e) r.made; ends = further k _ _ _ r.ends })
    go Halts e ih = rw (run_halts (suc k) s e) (at_once (suc k) s OnHalt (on_halt ((judges_exactly.halts s).0 e)))
    go Unknown e ih = rw (run_word (suc k) s e) (at_once (suc k) s OnWord (on_word ((judges_exactly.unknown s).0 e)))
    go Outside e ih = rw (run_access (suc k) s e) (at_once (suc k) s OnAccess (on_access ((judges_exactly.outside s).0 e)))

-- and the only one
abbrev over : End → ℕ → State → Run
over e n t = record { end = e; steps = n; state = t }

back : (limit n : ℕ) (t : State) (e : End) → Ends (suc limit) (suc n) t e → Ends limit n t e
back limit n t OnHalt (on_halt h) = on_halt h
back limit n t OnWord (on_word h) = on_word h
back limit n t OnAccess (on_access h) = on_access h
back limit n t OnLimit (on_limit f h e) = on_limit f h (omega arith)

at_start : (limit : ℕ) (s : State) (e : End) → Ends limit 0 s e → run_of limit s ≡ over e 0 s
at_start limit s OnHalt (on_halt h) = run_halts limit s ((judges_exactly.halts s).1 h)
at_start limit s OnWord (on_word h) = run_word limit s ((judges_exactly.unknown s).1 h)
at_start limit s OnAccess (on_access h) = run_access limit s ((judges_exactly.outside s).1 h)
at_start limit s OnLimit (on_limit f h e) = rw (sym e) (run_spent s f ((judges_exactly.runs s f).1 h))

only : {n : ℕ} {s t : State} → Leads n s t → (limit : ℕ) (e : End) → n ≤ limit → Ends limit n t e → run_of limit s ≡ over e n t
only {s = s} stay limit e w x = at_start limit s e x
only (step f h l) zero e w x = absurd (omega arith)
only {s = s} (step {n = n} {t = t} f h l) (suc k) e w x =
    let r = only l k e (omega arith) (back k n t e x) in
    let m : 1 + n ≡ suc n = omega arith in
    run_on k s f ((judges_exactly.runs s f).1 h) ∙ rw (r, m)

pub runs_exactly : RunsExactly
unfolding RunsExactly
runs_exactly limit s r = ((λ e. rw e at (is_run limit s)), (λ i. only i.made limit r.end i.within i.ends))

-- A0 to A7
form_keeps : (f : Form) (s : State) → (act_of f s).a ≡ s.a
unfolding act_of
form_keeps Nop s = refl
form_keeps (Moveq b m) s = refl
form_keeps (MoveWord n m) s = refl
form_keeps (Load n m) s = refl
form_keeps (Store n m) s = refl
form_keeps (Add n m) s = refl
form_keeps (Sub n m) s = refl
form_keeps (Cmp n m) s = refl
form_keeps (Muls n m) s = refl
form_keeps (MulsImmediate m) s = refl
form_keeps (Tst n) s = refl
form_keeps (Subq k n) s = refl
form_keeps (Asl k n) s = refl
form_keeps (Branch k b) s = refl

steps_keep : {n : ℕ} {s t : State} → Leads n s t → t.a ≡ s.a
steps_keep stay = refl
steps_keep (step {s = s} f m l) = steps_keep l ∙ form_keeps f s

pub no_form_changes_a : NoFormChangesA
no_form_changes_a = record { form = form_keeps; run = λ limit s. steps_keep (is_run limit s).made }
