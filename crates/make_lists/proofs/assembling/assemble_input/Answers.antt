-- As much of the table as is kept is enough.
use Rattle.std.proofs.Common.{arith}
use Rattle.make_lists.proofs.Few.{plain_few, under_few}
use Rattle.make_lists.proofs.Read.{whole_table}
use Rattle.make_lists.proofs.assembling.assemble_input.Goals as goal

pub list_input-requires : goal.list_input-requires
list_input-requires c = under_few _ _

pub list_input-requires-2 : goal.list_input-requires-2
list_input-requires-2 c = plain_few _

pub returns-then-lent-clause-answers : goal.returns-then-lent-clause-answers
returns-then-lent-clause-answers c = λ t s p q. rw c.if-lent.true (rw (whole_table p (omega arith) c.min-kept.result c.min-kept.ensures c.args.base s) at (c.list_input.ensures.answers s q))
