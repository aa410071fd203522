-- What an accepted call answers and leaves, and what a refused one does. Assumes nothing.
use Prim.Native.Nat.{ℕ, ◌%◌, ◌≤◌}
use mathlib.Core.Path.{◌≡◌, refl, sym, ◌∙◌, ap}
use mathlib.Core.Bool.{Bool, true, false}
use mathlib.Core.List.{List}
use lib.Dec.{leb, eqb}
use lib.ListN.{get_or, replicate}
use borrow.Author.Tests.{leb-true, leb-false, eqb-true, eqb-false}
use Rattle.rules.specs.Answer.{Answer, accepted, refused}
use Rattle.machine.specs.Machine.{State, Run, run_of}
use Rattle.machine.specs.Bench.{clear, fill_of, state_at, bench_answer, bench_of, registers_after, memory_after}
use Rattle.machine.specs.declared.Flags.{Flags}
use Rattle.promises.proofs.Accepted.{not_refused, not_refused_at}
use Rattle.promises_bench.specs.BenchCall.{Placed, Misplaced, odd, above, BenchCondition, FillsExactly, BenchRefusesExactly, IsStart, IsBench, BenchAcceptsExactly, RefusedBenchChangesNothing, AcceptedBenchLeavesItsRun}
use Rattle.promises_bench.specs.BenchRuns.{RunsExactly}
use Rattle.promises_bench.proofs.BenchRun.{runs_exactly, no_form_changes_a}
use Rattle.promises_bench.proofs.BenchFill.{fills_exactly}
use Rattle.promises_bench.proofs.BenchRefusals.{no_condition, none_misplaced, bench_refuses_exactly}

-- an address that is not misplaced
in_place : (p : ℕ) → ¬ Misplaced p → (p % 2 ≡ 0) × (p ≤ 16382)
in_place p m = go (eqb (p % 2) 0) refl
  where
    go : (x : Bool) → eqb (p % 2) 0 ≡ x → (p % 2 ≡ 0) × (p ≤ 16382)
    go true e = (eqb-true (p % 2) 0 e, low (leb p 16382) refl)
      where
        low : (y : Bool) → leb p 16382 ≡ y → p ≤ 16382
        low true f = leb-true p 16382 f
        low false f = absurd (m (above (leb-false p 16382 f)))
    go false e = absurd (m (odd (eqb-false (p % 2) 0 e)))

-- states with the same parts
same_flags : (f g : Flags) → f.x ≡ g.x → f.n ≡ g.n → f.z ≡ g.z → f.v ≡ g.v → f.c ≡ g.c → f ≡ g
same_flags f g x n z v c = λ i. record { x = x i; n = n i; z = z i; v = v i; c = c i }

same_state : (s t : State) → s.d ≡ t.d → s.a ≡ t.a → s.flags ≡ t.flags → s.pc ≡ t.pc → s.mem ≡ t.mem → s ≡ t
same_state s t d a f p m = λ i. record { d = d i; a = a i; flags = f i; pc = p i; mem = m i }

module _ (xs ws : List ℕ) (count : ℕ) (a : List ℕ) (pc limit : ℕ) where
  abbrev answer : Answer Run
  answer = bench_of count xs ws a pc limit

  abbrev first : State
  first = state_at count xs ws a pc

  -- the run of an accepted call is that of its first state
  run_is : (r : Run) → answer ≡ accepted r → run_of limit first ≡ r
  unfolding bench_of bench_answer
  run_is r e =
      let h = not_refused _ _ _ _ r e in
      let k = not_refused_at _ _ _ r h.1 in
      cc

  -- its entries have room
  all_placed : (r : Run) → answer ≡ accepted r → Placed count xs
  unfolding bench_of
  all_placed r e i l = in_place (get_or xs i 0) (none_misplaced xs ws count (run_of limit first) r e i l)

  -- the first state is the one that is written out
  is_start : Placed count xs → IsStart xs ws count a pc first
  unfolding state_at FillsExactly
  is_start c =
      record {
        d_registers = refl;
        a_registers = refl;
        x = refl;
        n = refl;
        z = refl;
        v = refl;
        c = refl;
        counter = refl;
        memory = (fills_exactly count xs ws (fill_of count xs ws (replicate 16384 0)) c).0 refl;
      }

  only_start : (s : State) → Placed count xs → IsStart xs ws count a pc s → first ≡ s
  unfolding state_at FillsExactly
  only_start s c t =
      same_state first s (sym t.d_registers) (sym t.a_registers) (same_flags clear s.flags (sym t.x) (sym t.n) (sym t.z) (sym t.v) (sym t.c)) (sym t.counter)
      ((fills_exactly count xs ws s.mem c).1 t.memory)

  is_bench : (r : Run) → answer ≡ accepted r → IsBench xs ws count a pc limit r
  unfolding bench_of RunsExactly
  is_bench r e =
      record {
        none = no_condition xs ws count (run_of limit first) r e;
        start = first;
        starts = is_start (all_placed r e);
        runs = (runs_exactly limit first r).0 (run_is r e);
      }

  -- where no condition holds the call is accepted
  accepts : ((n p : ℕ) → ¬ BenchCondition xs ws count n p) → (o : Answer Run) → answer ≡ o → answer ≡ accepted (run_of limit first)
  unfolding BenchRefusesExactly
  accepts none (accepted r) e = e ∙ ap accepted (sym (run_is r e))
  accepts none (refused n p) e = absurd (none n p ((bench_refuses_exactly xs ws count a pc limit n p).0 e).0)

  only_bench : (r : Run) → IsBench xs ws count a pc limit r → answer ≡ accepted r
  unfolding RunsExactly
  only_bench r b =
      let e = accepts b.none answer refl in
      let s = only_start b.start (all_placed (run_of limit first) e) b.starts in
      e ∙ ap accepted (ap (run_of limit) s ∙ (runs_exactly limit b.start r).1 b.runs)

  a_stays : (r : Run) → answer ≡ accepted r → r.state.a ≡ a
  unfolding state_at
  a_stays r e = ap (λ (r : Run). r.state.a) (sym (run_is r e)) ∙ no_form_changes_a.run limit first

pub bench_accepts_exactly : BenchAcceptsExactly
unfolding BenchAcceptsExactly
bench_accepts_exactly xs ws count a pc limit r = (is_bench xs ws count a pc limit r, only_bench xs ws count a pc limit r)

pub refused_bench_changes_nothing : RefusedBenchChangesNothing
unfolding RefusedBenchChangesNothing registers_after memory_after
refused_bench_changes_nothing xs ws count a pc limit n p d mem e = rw e (refl, refl)

pub accepted_bench_leaves_its_run : AcceptedBenchLeavesItsRun
unfolding AcceptedBenchLeavesItsRun registers_after memory_after
accepted_bench_leaves_its_run xs ws count a pc limit d mem r e = record { registers = rw e refl; memory = rw e refl; a_registers = a_stays xs ws count a pc limit r e }
