-- The bench's answer by value. Assumes nothing.
use Rattle.rules.specs.Answer.{Answer, accepted, refused}
use Rattle.machine.specs.Machine.{Run}
use Rattle.machine.specs.declared.Ran.{Ran}

-- what a run hands back by value
abbrev pub value_of : Run → Ran
value_of r = record { end = r.end; steps = r.steps; status = record { flags = r.state.flags; pc = r.state.pc } }

-- an answer with another value, where it is accepted
abbrev pub instead : {A B : Type 0} → B → Answer A → Answer B
instead b (accepted a) = accepted b
instead b (refused n p) = refused n p

-- the call's answer, with a run's part that is handed back by value
abbrev pub ran_answer : Answer Run → Answer Ran
ran_answer (accepted r) = accepted (value_of r)
ran_answer (refused n p) = refused n p
