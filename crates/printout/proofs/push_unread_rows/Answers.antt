-- `push_unread_rows` has before each line the rows of the lines that are left still to write. Assumes nothing.
use mathlib.Core.Path.{refl}
use native.Mathlib.Omega.{arith}
use Rattle.printout.proofs.Coding.{line_within}
use Rattle.printout.proofs.Rowing.{rowing_start, rowing_line, rowing_more, rowing_all, unread_none, unread_step}
use Rattle.printout.proofs.push_unread_rows.Goals as goal

pub loop-i-init : goal.loop-i-init
loop-i-init c = rowing_start _ _ _ _ _ _ c.requires.near (omega (arith, c.requires.room)) refl

pub push_unread-requires : goal.push_unread-requires
push_unread-requires c = rowing_line c.loop-i.invariant c.requires c.loop-i-test.true _ c.outline_line-end.ensures.ends

pub overflow_add-i : goal.overflow_add-i
overflow_add-i c = omega (arith, line_within (rowing_line c.loop-i.invariant c.requires c.loop-i-test.true _ c.outline_line-end.ensures.ends))

pub loop-i-preserved : goal.loop-i-preserved
loop-i-preserved c = rowing_more c.loop-i.invariant c.requires c.loop-i-test.true _ c.outline_line-end.ensures.ends _ _ _ (unread_step _ _ _ _ c.loop-i-test.true c.outline_line-end.ensures.ends) c.push_unread.ensures.text c.push_unread.ensures.start_bound

pub returns : goal.returns
returns c = rowing_all c.loop-i.invariant c.requires (unread_none _ _ _ c.loop-i-test.false)
