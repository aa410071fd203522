-- `next_row` has before each row the next of the rows from there on. Assumes nothing.
use Rattle.std.proofs.Common.{arith}
use Rattle.symbols.proofs.Next.{walk_start, walk_on}
use Rattle.symbols.proofs.next_row.Goals as goal

pub loop-k-init : goal.loop-k-init
loop-k-init c = walk_start c.args.labels.now.table _ _ (omega (arith, c.len-k.ensures.count))

pub loop-k-preserved : goal.loop-k-preserved
loop-k-preserved c = walk_on c.args.labels.now.table _ _ (omega arith) (omega (arith, c.len-k.ensures.count)) c.row.ensures c.earlier_row-best.ensures c.loop-k.invariant
