-- A processor and a memory as the machine's state, and a step that is made or not. Assumes nothing.
use Rattle.std.specs.Prelude.{ℕ, Bool, cond, List}
use Rattle.machine.specs.Machine.{State, state_of, act_of}
use Rattle.machine.specs.declared.Form.{Form}
use Rattle.step.specs.declared.Processor.{Processor}

abbrev pub state : Processor → List ℕ → State
state p mem = state_of p.d p.a p.status mem

abbrev pub act_if : Bool → Form → State → State
act_if go f s = cond go (act_of f s) s
