-- `nearest_row` has before each row the nearest of the rows from there on. Assumes nothing.
use Rattle.std.proofs.Common.{arith}
use Rattle.nearest.proofs.Walk.{walk_start, walk_on, walk_end, row_low}
use Rattle.nearest.proofs.nearest_row.Goals as goal

pub loop-k-init : goal.loop-k-init
loop-k-init c = walk_start c.args.labels.now.table _ _ (omega arith)

pub loop-k-preserved : goal.loop-k-preserved
loop-k-preserved c = walk_on c.args.labels.now.table _ _ (omega arith) (omega arith) c.row.ensures c.with_row-best.ensures c.loop-k.invariant

pub returns-clause-not_past : goal.returns-clause-not_past
returns-clause-not_past c = row_low _ _ (walk_end c.args.labels.now.table _ _ c.loop-k-test.false c.loop-k.invariant)
