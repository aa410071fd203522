-- "The line with no word": the verdict on each line that is read, "word emitted" or the first of the seven reasons, by the
-- table of forms and without the encoder. The mnemonics are those in use, `.._by names`; the built-in ones have the plain names. Assumes nothing.
use Rattle.std.specs.Prelude.{ℕ, zero, suc, Bool, true, false, ◌&&◌, ◌||◌, cond, List, [], ◌∷◌, map, ◌++◌, ltb, length, Option, None, Some, slice_get}
use Rattle.rules.specs.Text.{Text, bytes, after, cut_at}
use Rattle.rules.specs.Number.{Failure, Reading, read, failed, reading8, reading16, immediate, imm8, imm16, hex_tail}
use Rattle.rules.specs.Line.{Instruction, Task, skipped, end, org, no_org, label_only, instruction, value, space}
use Rattle.rules.specs.Label.{Table, find}
use Rattle.rules.specs.Encode.{Operation, Mnemonic, mnemonics, operation_in, data_register, address_register, indirect, ◌>>=◌, ◌else◌, reach, written_reading, displacement, is_some, all_digits, jumps}
use Rattle.rules.specs.Forms.{Operand, i8, u16, hash_label, Dn, An, AtAn, label, jump_target, branch_target, counted, forms_of, form_with}
use Rattle.rules.specs.Answer.{Answer, accepted, refused, and_then}
use Rattle.rules.specs.Assemble.{Put, Pass, pass_at}

-- "the first that holds: not an instruction; unknown mnemonic; wrong operand count; operand kinds that no form of the mnemonic has; a
-- number and what failed in it; a label not recorded; a displacement out of range"
pub data Reason : Type 0 where
  not_instruction unknown_mnemonic wrong_count wrong_kinds : Reason
  bad_number : Failure → Reason
  not_recorded out_of_reach : Reason

-- what the tool says of a line: "word emitted", or why not
pub data Verdict : Type 0 where
  emitted : Verdict
  because : Reason → Verdict

-- ---- an operand s in a form's place, at address a by the labels ls
-- it makes the word there; where a label may stand, one does so whatever its name looks like
unfoldable pub meets : Table → ℕ → Operand → Text → Bool
meets ls a i8 s = is_some (imm8 s)
meets ls a u16 s = is_some (imm16 s)
meets ls a hash_label s = is_some (after (bytes "#") s >>= λ l. find l ls)
meets ls a Dn s = is_some (data_register s)
meets ls a An s = is_some (address_register s)
meets ls a AtAn s = is_some (indirect s)
meets ls a label s = is_some (find s ls)
meets ls a jump_target s = jumps ls s
meets ls a branch_target s = is_some (displacement ls a s)

-- "a number and what failed in it"
unfoldable pub failing : {A : Type 0} → Reading A → Option Reason
failing (read v) = None
failing (failed f) = Some (bad_number f)

-- "a label not recorded"
unfoldable pub unless_found : Table → Text → Option Reason
unless_found ls l = elim (find l ls) [ None ↦ Some not_recorded | Some x ↦ None ]

-- and "a displacement out of range"
unfoldable pub unless_reached : Table → ℕ → Text → Option Reason
unless_reached ls a l = elim (find l ls) [ None ↦ Some not_recorded | Some x ↦ elim (reach x a) [ None ↦ Some out_of_reach | Some z ↦ None ] ]

-- what is wrong with it there, if its kind is right
unfoldable pub fault : Table → ℕ → Operand → Text → Option Reason
fault ls a i8 s = immediate reading8 s >>= failing
fault ls a u16 s = immediate reading16 s >>= failing
fault ls a hash_label s = after (bytes "#") s >>= unless_found ls
fault ls a Dn s = None
fault ls a An s = None
fault ls a AtAn s = None
fault ls a label s = unless_found ls s
fault ls a jump_target s = cond (is_some (hex_tail s) || all_digits s) (failing (reading16 s)) (unless_found ls s)
fault ls a branch_target s = elim (written_reading s) [ None ↦ unless_reached ls a s | Some r ↦ failing r ]

-- ---- an instruction with the operands ps
-- they make the word in all places of a form
unfoldable pub met : Table → ℕ → List Operand → List Text → Bool
met ls a [] ps = true
met ls a (x ∷ xs) [] = false
met ls a (x ∷ xs) (s ∷ ps) = meets ls a x s && met ls a xs ps

-- and so in one of the forms
unfoldable pub one_met : Table → ℕ → List (List Operand) → List Text → Bool
one_met ls a [] ps = false
one_met ls a (f ∷ fs) ps = met ls a f ps || one_met ls a fs ps

-- what is wrong in a form's places, of which at most one has a number or a label
unfoldable pub fault_in : Table → ℕ → List Operand → List Text → Option Reason
fault_in ls a [] ps = None
fault_in ls a (x ∷ xs) [] = None
fault_in ls a (x ∷ xs) (s ∷ ps) = fault ls a x s else fault_in ls a xs ps

-- emitted, unless something is wrong
unfoldable pub unless : Option Reason → Verdict
unless None = emitted
unless (Some r) = because r

-- the verdict by the form that has their kinds
unfoldable pub why_kinds : Table → ℕ → List (List Operand) → List Text → Verdict
why_kinds ls a fs ps = elim (form_with fs ps) [ None ↦ because wrong_kinds | Some f ↦ unless (fault_in ls a f ps) ]

-- of a right count: "word emitted" if they make one; "Otherwise it gives the first that holds"
unfoldable pub why_forms : Table → ℕ → List (List Operand) → List Text → Verdict
why_forms ls a fs ps = cond (one_met ls a fs ps) emitted (why_kinds ls a fs ps)

-- of any count
unfoldable pub why_operation : Table → ℕ → Operation → List Text → Verdict
why_operation ls a o ps = cond (counted (forms_of o).count (length ps)) (why_forms ls a (forms_of o).forms ps) (because wrong_count)

-- the verdict on an instruction; its suffix is never a reason
unfoldable pub why : List Mnemonic → Table → ℕ → Instruction → Verdict
why names ls a i =
    elim (operation_in names i.mnemonic) [ None ↦ because unknown_mnemonic | Some o ↦ why_operation ls a o i.operands ]

-- ---- a line
-- the verdict on what a line asks
unfoldable pub why_task : List Mnemonic → Table → ℕ → Task → Verdict
why_task names ls a skipped = because not_instruction
why_task names ls a end = because not_instruction
why_task names ls a (org v) = because not_instruction
why_task names ls a no_org = because not_instruction
why_task names ls a label_only = because not_instruction
why_task names ls a (instruction i) = why names ls a i
why_task names ls a (value n v) = emitted
why_task names ls a (space n) = because not_instruction

-- the verdicts on the lines that are read, in order; where fewer lines ask for something than there are, the next one is END
unfoldable pub verdicts : List Mnemonic → Text → Pass → List Verdict
verdicts names s p =
    map (λ (k : Put). why_task names p.labels k.address k.task) p.puts
    ++ cond (ltb (length p.puts) (length (cut_at 10 s))) (because not_instruction ∷ []) []

-- the verdict on a line, from 1
unfoldable pub verdict_at : ℕ → List Verdict → Option Verdict
verdict_at zero vs = None
verdict_at (suc j) vs = slice_get vs j

-- "13: no such line, or a line that is never read; place the line"
unfoldable pub told_line : ℕ → Option Verdict → Answer Verdict
told_line k None = refused 13 k
told_line k (Some v) = accepted v

-- the verdict on every line that is read
unfoldable pub explain_all_by : List Mnemonic → ℕ → Text → Answer (List Verdict)
explain_all_by names base s = and_then (pass_at base s) (λ p. accepted (verdicts names s p))

-- and on the line k; 13 comes "after 1 to 6"
unfoldable pub explain_by : List Mnemonic → ℕ → Text → ℕ → Answer Verdict
explain_by names base s k = and_then (explain_all_by names base s) (λ vs. told_line k (verdict_at k vs))

-- with the built-in mnemonics
abbrev pub explain_all : ℕ → Text → Answer (List Verdict)
explain_all base s = explain_all_by mnemonics base s

abbrev pub explain : ℕ → Text → ℕ → Answer Verdict
explain base s k = explain_by mnemonics base s k
