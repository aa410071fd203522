-- The measures of the cycle of calls {read_atom, read_product, read_sum}. The remaining bytes fall from a parenthesis or an operator on; where the
-- place stays, from a sum to its first product and from that to its first atom, the reader's rank does: three times the bytes, and the rank.
-- Assumes nothing.
use Rattle.std.proofs.Common.{◌+◌, ◌-◌, ◌*◌, length}
use Rattle.rules.specs.Sum.{is_times, is_sign, atom_of, product_of}
use Rattle.sum.proofs.Readers.{Going}
use Rattle.sum.proofs.+read_atom_read_product_read_sum.Given as goal

abbrev pub decreases-read_atom : goal.decreases-read_atom
decreases-read_atom l = 3 * (length l.t.now - l.at)

abbrev pub decreases-read_product : goal.decreases-read_product
decreases-read_product l = 3 * (length l.t.now - l.at) + 1

abbrev pub decreases-read_sum : goal.decreases-read_sum
decreases-read_sum l = 3 * (length l.t.now - l.at) + 2

abbrev pub invariant-read_product-loop-end : goal.invariant-read_product-loop-end
invariant-read_product-loop-end l = Going is_times (atom_of l.depth) l.t l.at l.worth l.end

abbrev pub decreases-read_product-loop-end : goal.decreases-read_product-loop-end
decreases-read_product-loop-end l = length l.t - l.end

abbrev pub invariant-read_sum-loop-end : goal.invariant-read_sum-loop-end
invariant-read_sum-loop-end l = Going is_sign (product_of l.depth) l.t l.at l.worth l.end

abbrev pub decreases-read_sum-loop-end : goal.decreases-read_sum-loop-end
decreases-read_sum-loop-end l = length l.t - l.end
