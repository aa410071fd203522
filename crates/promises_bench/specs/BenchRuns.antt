-- A run of the bench, in plain numbers and apart from how it is computed: when a step may be made, what else stops a run, and which steps
-- lead where. What the step of a form does is `act_of`. Assumes nothing.
use Rattle.std.specs.Prelude.{ℕ, suc, ◌+◌, ◌*◌, ◌%◌, ◌≤◌, ◌≡◌, ◌↔◌, get_or}
use Rattle.machine.specs.Form.{Valid, word_of}
use Rattle.machine.specs.Machine.{State, Run, judge_of, act_of, run_of}
use Rattle.machine.specs.declared.Form.{Form}
use Rattle.machine.specs.declared.Form.TheVariants.{Load, Store, MulsImmediate}
use Rattle.machine.specs.declared.Judged.{Judged}
use Rattle.machine.specs.declared.Judged.TheVariants.{Runs, Halts, Unknown, Outside}
use Rattle.machine.specs.declared.End.{End}
use Rattle.machine.specs.declared.End.TheVariants.{OnHalt, OnWord, OnAccess, OnLimit}

-- no "odd or outside access": the address is even, and all two bytes of a word, or four of a long, are of the memory's 16,384
abbrev pub WordWithin : ℕ → Type 0
WordWithin p = (p % 2 ≡ 0) × (p ≤ 16382)

abbrev pub LongWithin : ℕ → Type 0
LongWithin p = (p % 2 ≡ 0) × (p ≤ 16380)

-- what a form reads or writes besides its first word: a long where An points, and MULS # the word after its own
abbrev pub ReachIsWithin : Form → State → Type 0
ReachIsWithin (Load n m) s = LongWithin (get_or s.a n 0)
ReachIsWithin (Store n m) s = LongWithin (get_or s.a m 0)
ReachIsWithin (MulsImmediate m) s = WordWithin (s.pc + 2)
ReachIsWithin f s = Unit

-- the word at the program counter: its high byte there, the low one after it
abbrev pub fetched : State → ℕ
fetched s = 256 * get_or s.mem s.pc 0 + get_or s.mem (s.pc + 1) 0

-- the step of form f may be made: its word is fetched, and so is what it reaches
pub record MayStep (s : State) (f : Form) : Type 0 where
  pub fetch : WordWithin s.pc
  pub valid : Valid f
  pub word : word_of f ≡ fetched s
  pub reach : ReachIsWithin f s

-- $4E72 is fetched
pub record AtHalt (s : State) : Type 0 where
  pub fetch : WordWithin s.pc
  pub word : fetched s ≡ 0x4E72

-- a word is fetched that is not $4E72 and no form's
pub record AtOtherWord (s : State) : Type 0 where
  pub fetch : WordWithin s.pc
  pub no_halt : ¬ (fetched s ≡ 0x4E72)
  pub no_form : (f : Form) → Valid f → ¬ (word_of f ≡ fetched s)

-- the fetch is odd or outside, "A fetch is an access"; or a form's word is fetched, and what it reaches is
pub data AtBadAccess (s : State) : Type 0 where
  bad_fetch : ¬ WordWithin s.pc → AtBadAccess s
  bad_reach : (f : Form) → WordWithin s.pc → Valid f → word_of f ≡ fetched s → ¬ ReachIsWithin f s → AtBadAccess s

-- the step that is next in a state
abbrev pub next_step : State → Judged
next_step s = judge_of s.a s.mem s.pc

-- which is by these alone
pub record JudgesExactly : Type 0 where
  pub runs : (s : State) (f : Form) → (next_step s ≡ Runs f) ↔ MayStep s f
  pub halts : (s : State) → (next_step s ≡ Halts) ↔ AtHalt s
  pub unknown : (s : State) → (next_step s ≡ Unknown) ↔ AtOtherWord s
  pub outside : (s : State) → (next_step s ≡ Outside) ↔ AtBadAccess s

-- n steps lead from a state to another
pub data Leads : ℕ → State → State → Type 0 where
  stay : {s : State} → Leads 0 s s
  step : {n : ℕ} {s t : State} (f : Form) → MayStep s f → Leads n (act_of f s) t → Leads (suc n) s t

-- why a run ends after n steps: "the first three come before the last"
pub data Ends (limit n : ℕ) (t : State) : End → Type 0 where
  on_halt : AtHalt t → Ends limit n t OnHalt
  on_word : AtOtherWord t → Ends limit n t OnWord
  on_access : AtBadAccess t → Ends limit n t OnAccess
  on_limit : (f : Form) → MayStep t f → n ≡ limit → Ends limit n t OnLimit

-- a run from s: "A run carries its step limit and the steps made"; "a step that stops is not counted and changes nothing"
pub record IsRun (limit : ℕ) (s : State) (r : Run) : Type 0 where
  pub within : r.steps ≤ limit
  pub made : Leads r.steps s r.state
  pub ends : Ends limit r.steps r.state r.end

unfoldable pub RunsExactly : Type 0
RunsExactly = (limit : ℕ) (s : State) (r : Run) → (run_of limit s ≡ r) ↔ IsRun limit s r

-- "no form sets A0 to A7", and so no run does
pub record NoFormChangesA : Type 0 where
  pub form : (f : Form) (s : State) → (act_of f s).a ≡ s.a
  pub run : (limit : ℕ) (s : State) → (run_of limit s).state.a ≡ s.a
