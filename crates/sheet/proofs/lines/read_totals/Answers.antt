-- `read_totals` has before each line the totals of those before it. Assumes nothing.
use mathlib.Core.Path.{refl}
use native.Mathlib.Omega.{arith}
use Rattle.sheet.proofs.Reading.{counted_start, line_needs, after_fits, counted_on}
use Rattle.sheet.proofs.lines.read_totals.Goals as goal

pub loop-k-init : goal.loop-k-init
loop-k-init c = counted_start _ _ _ refl

pub add_line-totals-requires : goal.add_line-totals-requires
add_line-totals-requires c = line_needs c.requires c.loop-k.invariant (omega arith) c.kept_line-kept.ensures

pub overflow_cast-address : goal.overflow_cast-address
overflow_cast-address c = record { fits = rw c.address_after-address.ensures (after_fits c.requires c.loop-k.invariant (omega arith) c.kept_line-kept.ensures) }

pub loop-k-preserved : goal.loop-k-preserved
loop-k-preserved c = counted_on c.requires c.loop-k.invariant (omega arith) c.kept_line-kept.ensures c.add_line-totals.ensures c.address_after-address.ensures
