-- The proof of the cycle of calls {read_atom, read_product, read_sum}: each goal of a reader by the definitions. Assumes nothing.
use lib.Arith.{lt_of_le-ne}
use Rattle.rules.proofs.Chain.{atom_shrinks, product_shrinks}
use Rattle.sum.proofs.Readers.{first_malformed, begin, finish, stop, more_malformed, more, ends, plain, too_deep, opened, paren_malformed}
use Rattle.sum.proofs.+read_atom_read_product_read_sum.Goals as goal

pub read_atom-returns-then-at-t : goal.read_atom-returns-then-at-t
read_atom-returns-then-at-t t c = ends _ _ _ c.if-at-t.true

pub read_atom-returns-then-t-at-ne40 : goal.read_atom-returns-then-t-at-ne40
read_atom-returns-then-t-at-ne40 t c = plain _ _ _ (lt_of_le-ne c.requires c.if-at-t.false) _ c.if-t-at-ne40.true c.read_number.ensures

pub read_atom-returns-then-depth-eq0 : goal.read_atom-returns-then-depth-eq0
read_atom-returns-then-depth-eq0 t c = too_deep _ _ _ (lt_of_le-ne c.requires c.if-at-t.false) c.if-t-at-ne40.false c.if-depth-eq0.true

pub read_atom-returns-in_err-read_sum : goal.read_atom-returns-in_err-read_sum
read_atom-returns-in_err-read_sum t c = rw c.from_residual.ensures (opened _ _ _ (lt_of_le-ne c.requires c.if-at-t.false) c.if-t-at-ne40.false c.if-depth-eq0.false (paren_malformed _ _ c.read_sum.ensures c.in_err-read_sum.was))

pub read_atom-returns : goal.read_atom-returns
read_atom-returns t c = opened _ _ _ (lt_of_le-ne c.requires c.if-at-t.false) c.if-t-at-ne40.false c.if-depth-eq0.false (c.close_paren.ensures _ _ (rw c.in_ok-read_sum.was at c.read_sum.ensures))

pub read_product-returns-in_err-worth : goal.read_product-returns-in_err-worth
read_product-returns-in_err-worth t c = rw c.from_residual.ensures (first_malformed _ _ c.read_atom.ensures c.in_err-worth.was)

pub read_product-loop-end-init : goal.read_product-loop-end-init
read_product-loop-end-init t c = begin _ _ c.read_atom.ensures _ c.in_ok-worth.was

pub read_product-returns-then-not-is_times : goal.read_product-returns-then-not-is_times
read_product-returns-then-not-is_times t c = stop _ _ c.loop-end.invariant _ c.loop-end-test.true c.is_times.ensures c.if-not-is_times.true

pub read_product-returns-in_err-more : goal.read_product-returns-in_err-more
read_product-returns-in_err-more t c = rw c.from_residual-in_err-more.ensures (more_malformed _ _ c.loop-end.invariant (atom_shrinks _) c.loop-end-test.true c.is_times.ensures c.if-not-is_times.false c.read_atom-in-loop-end.ensures c.in_err-more.was)

pub read_product-loop-end-preserved : goal.read_product-loop-end-preserved
read_product-loop-end-preserved t c = more _ _ c.loop-end.invariant (atom_shrinks _) c.loop-end-test.true c.is_times.ensures c.if-not-is_times.false c.read_atom-in-loop-end.ensures c.in_ok-more.more c.in_ok-more.was _ c.combined-worth.ensures

pub read_product-returns : goal.read_product-returns
read_product-returns t c = finish _ _ c.loop-end.invariant c.loop-end-test.false

pub read_sum-returns-in_err-worth : goal.read_sum-returns-in_err-worth
read_sum-returns-in_err-worth t c = rw c.from_residual.ensures (first_malformed _ _ c.read_product.ensures c.in_err-worth.was)

pub read_sum-loop-end-init : goal.read_sum-loop-end-init
read_sum-loop-end-init t c = begin _ _ c.read_product.ensures _ c.in_ok-worth.was

pub read_sum-returns-then-not-is_sign : goal.read_sum-returns-then-not-is_sign
read_sum-returns-then-not-is_sign t c = stop _ _ c.loop-end.invariant _ c.loop-end-test.true c.is_sign.ensures c.if-not-is_sign.true

pub read_sum-returns-in_err-more : goal.read_sum-returns-in_err-more
read_sum-returns-in_err-more t c = rw c.from_residual-in_err-more.ensures (more_malformed _ _ c.loop-end.invariant (product_shrinks _) c.loop-end-test.true c.is_sign.ensures c.if-not-is_sign.false c.read_product-in-loop-end.ensures c.in_err-more.was)

pub read_sum-loop-end-preserved : goal.read_sum-loop-end-preserved
read_sum-loop-end-preserved t c = more _ _ c.loop-end.invariant (product_shrinks _) c.loop-end-test.true c.is_sign.ensures c.if-not-is_sign.false c.read_product-in-loop-end.ensures c.in_ok-more.more c.in_ok-more.was _ c.combined-worth.ensures

pub read_sum-returns : goal.read_sum-returns
read_sum-returns t c = finish _ _ c.loop-end.invariant c.loop-end-test.false
