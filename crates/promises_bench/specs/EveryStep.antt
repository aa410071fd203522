-- The steps of a run: each is of a form that may be made there, and does what the manual says of that form. Neither `act_of` nor a condition
-- of the machine is named in what a step or a run is here. Assumes nothing.
use Rattle.std.specs.Prelude.{ℕ, suc, ◌+◌}
use Rattle.machine.specs.Machine.{State, act_of, run_of}
use Rattle.machine.specs.declared.Form.{Form}
use Rattle.machine.specs.declared.Form.TheVariants.{Nop, Moveq, MoveWord, Load, Store, Add, Sub, Cmp, Muls, MulsImmediate, Tst, Subq, Asl, Branch}
use Rattle.promises_bench.specs.BenchRuns.{MayStep}
use Rattle.promises_bench.specs.Steps.{low_word, word_in, Dn, PlainState, HasBranch, NopStep, MoveqStep, MoveWordStep, LoadStep, StoreStep}
use Rattle.promises_bench.specs.Steps.{AddStep, SubStep, CmpStep, MulsStep, TstStep, SubqStep, AslStep, BranchStep}

-- the step of a form from s to t, a clause a form; a branch's condition is one of those that a branch may have
abbrev pub ManualStep : Form → State → State → Type 0
ManualStep Nop s t = NopStep s t
ManualStep (Moveq b m) s t = MoveqStep b m s t
ManualStep (MoveWord n m) s t = MoveWordStep n m s t
ManualStep (Load n m) s t = LoadStep n m s t
ManualStep (Store n m) s t = StoreStep n m s t
ManualStep (Add n m) s t = AddStep n m s t
ManualStep (Sub n m) s t = SubStep n m s t
ManualStep (Cmp n m) s t = CmpStep n m s t
ManualStep (Muls n m) s t = MulsStep (low_word (Dn s n)) m 2 s t
ManualStep (MulsImmediate m) s t = MulsStep (word_in s (s.pc + 2)) m 4 s t
ManualStep (Tst n) s t = TstStep n s t
ManualStep (Subq k n) s t = SubqStep k n s t
ManualStep (Asl k n) s t = AslStep k n s t
ManualStep (Branch k b) s t = HasBranch k × BranchStep k b s t

-- n such steps lead from a state to another, each of a form that may be made in the state before it
pub data ManualSteps : ℕ → State → State → Type 0 where
  no_step : {s : State} → ManualSteps 0 s s
  one_step : {n : ℕ} {s t u : State} (f : Form) → MayStep s f → ManualStep f s t → ManualSteps n t u → ManualSteps (suc n) s u

-- every step that may be made in such a state is the manual's, and every run from one is as many of them as it says, to the state that it ends in
pub record EveryStepIsTheManuals : Type 0 where
  pub step : (f : Form) (s : State) → PlainState s → MayStep s f → ManualStep f s (act_of f s)
  pub run : (limit : ℕ) (s : State) → PlainState s → ManualSteps (run_of limit s).steps s (run_of limit s).state
