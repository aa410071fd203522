-- `encode_form`, form by form. Assumes nothing.
use Rattle.encode_manual.proofs.Coded.{a_word, a_value, a_long, no_label, a_label, a_branch, no_branch, a_loop, no_loop, branch_small}
use Rattle.encode_manual.proofs.encode_form.Goals as goal

pub returns-in-Word : goal.returns-in-Word
returns-in-Word c = λ g h. a_word _ _ g (rw c.in-Word.is at h)

pub returns-in-Value : goal.returns-in-Value
returns-in-Value c = λ g h. a_value _ _ g (rw c.in-Value.is at h)

pub returns-in-Long : goal.returns-in-Long
returns-in-Long c = λ g h. a_long _ _ g (rw c.in-Long.is at h)

pub returns-in-Some : goal.returns-in-Some
returns-in-Some c = λ g h. a_label _ _ c.in-Labelled.name c.in-Labelled.w c.find.ensures g (rw c.in-Labelled.is at h) c.in-Some.is

pub returns-in-None : goal.returns-in-None
returns-in-None c = λ g h. no_label _ _ c.in-Labelled.name c.in-Labelled.w c.find.ensures g (rw c.in-Labelled.is at h) c.in-None.is

pub branch_word-requires : goal.branch_word-requires
branch_word-requires c = branch_small c.in-Branch.condition c.in-Branch.s c.requires.0 (rw c.in-Branch.is at c.requires.1)

pub returns-in-Ok : goal.returns-in-Ok
returns-in-Ok c = λ g h. a_branch _ _ c.in-Branch.s c.in-Branch.condition c.parse_displacement.ensures g (rw c.in-Branch.is at h) c.in-Ok.is c.branch_word.ensures

pub returns-in-Err : goal.returns-in-Err
returns-in-Err c = λ g h. rw c.fault.ensures (no_branch _ _ c.in-Branch.s c.in-Branch.condition c.parse_displacement.ensures g (rw c.in-Branch.is at h) c.in-Err.is)

pub returns-in-Ok-parse_displacement : goal.returns-in-Ok-parse_displacement
returns-in-Ok-parse_displacement c = λ g h. a_loop _ _ c.in-Loop.s c.in-Loop.w c.parse_displacement-in-Loop.ensures g (rw c.in-Loop.is at h) c.in-Ok-parse_displacement.is

pub returns-in-Err-parse_displacement : goal.returns-in-Err-parse_displacement
returns-in-Err-parse_displacement c = λ g h. rw c.fault-in-Err-parse_displacement.ensures (no_loop _ _ c.in-Loop.s c.in-Loop.w c.parse_displacement-in-Loop.ensures g (rw c.in-Loop.is at h) c.in-Err-parse_displacement.is)
