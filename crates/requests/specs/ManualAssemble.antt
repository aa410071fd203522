-- The manual's call: its refusals and its list. The passes are those of the rules over a size and an encoder. Assumes nothing.
use Rattle.std.specs.Prelude.{ℕ, suc, List, [], ◌∷◌, Option, None, Some}
use Rattle.rules.specs.Text.{Text}
use Rattle.rules.specs.Line.{Task, skipped, end, org, no_org, label_only, instruction, value, space}
use Rattle.rules.specs.Label.{Table}
use Rattle.rules.specs.Answer.{Answer, refused, and_then}
use Rattle.rules.specs.Assemble.{Put, Pass, Place, encoded, pass_at_by, Slices, room, write_list}
use Rattle.requests.specs.ManualCall.{manual_size, manual_encode, manual_fault}

-- what is wrong with a line, 14 or 15: only with an instruction
unfoldable pub task_fault : Table → ℕ → Task → Option ℕ
task_fault t a skipped = None
task_fault t a end = None
task_fault t a (org v) = None
task_fault t a no_org = None
task_fault t a label_only = None
task_fault t a (instruction i) = manual_fault t a i
task_fault t a (value n v) = None
task_fault t a (space n) = None

-- 14 and 15, "both with the line as place, second pass, first line first": every line puts once, so the first of the puts is line n's
unfoldable pub faultless : {A : Type 0} → Table → ℕ → List Put → Answer A → Answer A
faultless t n [] r = r
faultless t n (p ∷ ps) r = elim (task_fault t p.address p.task) [ None ↦ faultless t (suc n) ps r | Some f ↦ refused f n ]

-- the list of what the first pass came to, if no line has a fault
unfoldable pub encoded_manual : Pass → Answer (List Place)
encoded_manual p = faultless p.labels 1 p.puts (encoded manual_encode p)

-- 1, 2, 3, 4, then line by line 6 before 5, then 14 and 15: the list of a source at a base
unfoldable pub assemble_manual : ℕ → Text → Answer (List Place)
assemble_manual base s = and_then (pass_at_by manual_size base s) encoded_manual

-- "before 7": the answer of a call, the count or a refusal
unfoldable pub manual_answer : ℕ → Text → Slices → Answer ℕ
manual_answer base s x = and_then (assemble_manual base s) (room x)

-- the slices after a call
unfoldable pub manual_slices : ℕ → Text → Slices → Slices
manual_slices base s x = write_list (assemble_manual base s) x
