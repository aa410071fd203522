-- What is left to read answers as the whole.
use Rattle.std.proofs.Common.{arith, sym, ap, not, ◌∙◌, ◌≡◌, ◌*◌}
use borrow.Author.Tests.{not-true, not-false}
use Rattle.listing.proofs.Lines.{counting_end, counting_full, counting_bad, counting_more, rest_is}
use Rattle.listing.proofs.reading.count_lines.Goals as goal

pub returns-then-at-t : goal.returns-then-at-t
returns-then-at-t c = counting_end c.loop-n.invariant (omega arith)

pub returns-then-not-is_line : goal.returns-then-not-is_line
returns-then-not-is_line c =
    counting_bad c.loop-n.invariant (omega arith) (sym (rw (rest_is c.args.t.now (16 * c.loop-n.n)) at c.is_line.ensures) ∙ not-true _ (ap not c.if-not-is_line.true))

pub loop-n-preserved : goal.loop-n-preserved
loop-n-preserved c =
    counting_more c.loop-n.invariant (omega arith) (omega arith) (sym (rw (rest_is c.args.t.now (16 * c.loop-n.n)) at c.is_line.ensures) ∙ not-false _ (ap not c.if-not-is_line.false))

pub returns-then-room-t : goal.returns-then-room-t
returns-then-room-t c = let e : c.loop-n.n ≡ c.args.room = omega arith in rw e at (counting_full c.loop-n.invariant (omega arith) (omega arith))

pub returns : goal.returns
returns c = let e : c.loop-n.n ≡ c.args.room = omega arith in rw e at (counting_end c.loop-n.invariant (omega arith))
