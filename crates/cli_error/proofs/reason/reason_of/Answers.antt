-- `reason_of` looks for the mark from the end on. Assumes nothing.
use Rattle.std.proofs.Common.{arith}
use Rattle.cli_error.proofs.Marks.{mark_found, no_mark_here}
use Rattle.cli_error.proofs.reason.reason_of.Goals as goal

pub returns-then-starts_mark : goal.returns-then-starts_mark
returns-then-starts_mark c = mark_found c.args.shown.now c.loop-i.i (omega arith) (omega arith) c.starts_mark.ensures c.if-starts_mark.true c.loop-i.invariant

pub loop-i-preserved : goal.loop-i-preserved
loop-i-preserved c = no_mark_here c.args.shown.now c.loop-i.i (omega arith) (omega arith) c.starts_mark.ensures c.if-starts_mark.false c.loop-i.invariant
