-- Every step that may be made is the manual's, and a run is such steps. Assumes nothing.
use Prim.Native.Nat.{ℕ, zero, suc, ◌<◌}
use mathlib.Core.Path.{◌≡◌, refl}
use mathlib.Core.Bool.{true, false≢true}
use native.Mathlib.Omega.{arith}
use Rattle.machine.specs.Form.{listed}
use Rattle.machine.specs.Machine.{State, act_of, run_of}
use Rattle.machine.specs.declared.Form.{Form}
use Rattle.machine.specs.declared.Form.TheVariants.{Nop, Moveq, MoveWord, Load, Store, Add, Sub, Cmp, Muls, MulsImmediate, Tst, Subq, Asl, Branch}
use Rattle.promises_bench.specs.BenchRuns.{MayStep, Leads, stay, step, RunsExactly}
use Rattle.promises_bench.specs.Steps.{PlainState, HasBranch, bra, bcc, bcs, bne, beq, bge, blt, bgt, ble}
use Rattle.promises_bench.specs.Steps.{NopIsTheManuals, MoveqIsTheManuals, MoveWordIsTheManuals, LoadIsTheManuals, StoreIsTheManuals, AddIsTheManuals, SubIsTheManuals, CmpIsTheManuals, MulsIsTheManuals, MulsImmediateIsTheManuals, TstIsTheManuals, SubqIsTheManuals, AslIsTheManuals, BranchIsTheManuals}
use Rattle.promises_bench.specs.EveryStep.{ManualStep, ManualSteps, no_step, one_step, EveryStepIsTheManuals}
use Rattle.promises_bench.proofs.BenchRun.{runs_exactly}
use Rattle.promises_bench.proofs.StepsForms.{nop_is_the_manuals, moveq_is_the_manuals, move_word_is_the_manuals, load_is_the_manuals, store_is_the_manuals, add_is_the_manuals, sub_is_the_manuals, cmp_is_the_manuals, muls_is_the_manuals, muls_immediate_is_the_manuals, tst_is_the_manuals, subq_is_the_manuals, asl_is_the_manuals, branch_is_the_manuals, step_plain}

-- the conditions that run are a branch's
listed_branch : (k : ℕ) → k < 16 → listed k ≡ true → HasBranch k
unfolding listed
listed_branch zero l h = bra
listed_branch (suc zero) l h = absurd (false≢true h)
listed_branch (suc (suc zero)) l h = absurd (false≢true h)
listed_branch (suc (suc (suc zero))) l h = absurd (false≢true h)
listed_branch (suc (suc (suc (suc zero)))) l h = bcc
listed_branch (suc (suc (suc (suc (suc zero))))) l h = bcs
listed_branch (suc (suc (suc (suc (suc (suc zero)))))) l h = bne
listed_branch (suc (suc (suc (suc (suc (suc (suc zero))))))) l h = beq
listed_branch (suc (suc (suc (suc (suc (suc (suc (suc zero)))))))) l h = absurd (false≢true h)
listed_branch (suc (suc (suc (suc (suc (suc (suc (suc (suc zero))))))))) l h = absurd (false≢true h)
listed_branch (suc (suc (suc (suc (suc (suc (suc (suc (suc (suc zero)))))))))) l h = absurd (false≢true h)
listed_branch (suc (suc (suc (suc (suc (suc (suc (suc (suc (suc (suc zero))))))))))) l h = absurd (false≢true h)
listed_branch (suc (suc (suc (suc (suc (suc (suc (suc (suc (suc (suc (suc zero)))))))))))) l h = bge
listed_branch (suc (suc (suc (suc (suc (suc (suc (suc (suc (suc (suc (suc (suc zero))))))))))))) l h = blt
listed_branch (suc (suc (suc (suc (suc (suc (suc (suc (suc (suc (suc (suc (suc (suc zero)))))))))))))) l h = bgt
listed_branch (suc (suc (suc (suc (suc (suc (suc (suc (suc (suc (suc (suc (suc (suc (suc zero))))))))))))))) l h = ble
listed_branch (suc (suc (suc (suc (suc (suc (suc (suc (suc (suc (suc (suc (suc (suc (suc (suc k)))))))))))))))) l h = absurd (omega arith)

every_step : (f : Form) (s : State) → PlainState s → MayStep s f → ManualStep f s (act_of f s)
unfolding NopIsTheManuals MoveqIsTheManuals MoveWordIsTheManuals LoadIsTheManuals StoreIsTheManuals AddIsTheManuals SubIsTheManuals CmpIsTheManuals MulsIsTheManuals MulsImmediateIsTheManuals TstIsTheManuals SubqIsTheManuals AslIsTheManuals BranchIsTheManuals
every_step Nop s p m = nop_is_the_manuals s p
every_step (Moveq b r) s p m = moveq_is_the_manuals s b r p m.valid.0 m.valid.1
every_step (MoveWord n r) s p m = move_word_is_the_manuals s n r p m.valid.0 m.valid.1
every_step (Load n r) s p m = let w = m.reach.1 in load_is_the_manuals s n r p m.valid.0 m.valid.1 (omega arith)
every_step (Store n r) s p m = let w = m.reach.1 in store_is_the_manuals s n r p m.valid.0 m.valid.1 (omega arith)
every_step (Add n r) s p m = add_is_the_manuals s n r p m.valid.0 m.valid.1
every_step (Sub n r) s p m = sub_is_the_manuals s n r p m.valid.0 m.valid.1
every_step (Cmp n r) s p m = cmp_is_the_manuals s n r p m.valid.0 m.valid.1
every_step (Muls n r) s p m = muls_is_the_manuals s n r p m.valid.0 m.valid.1
every_step (MulsImmediate r) s p m = muls_immediate_is_the_manuals s r p m.valid
every_step (Tst n) s p m = tst_is_the_manuals s n p m.valid
every_step (Subq k n) s p m = subq_is_the_manuals s k n p m.valid.0 m.valid.1 m.valid.2
every_step (Asl k n) s p m = asl_is_the_manuals s k n p m.valid.0 m.valid.1 m.valid.2
every_step (Branch k b) s p m =
    let v = m.valid in
    let u = v.3 in
    let h = listed_branch k v.0 v.1 in
    (h, branch_is_the_manuals s k b p h v.2 (omega arith))

steps_made : {n : ℕ} {s t : State} → Leads n s t → PlainState s → ManualSteps n s t
steps_made stay p = no_step
steps_made {s = s} (step f m l) p = one_step f m (every_step f s p m) (steps_made l (step_plain f s p))

every_run : (limit : ℕ) (s : State) → PlainState s → ManualSteps (run_of limit s).steps s (run_of limit s).state
unfolding RunsExactly
every_run limit s p = steps_made ((runs_exactly limit s (run_of limit s)).0 refl).made p

pub every_step_is_the_manuals : EveryStepIsTheManuals
every_step_is_the_manuals = record { step = every_step; run = every_run }
